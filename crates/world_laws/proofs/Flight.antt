-- What a line meets decides where a flying hook ends, also at the hook's length. Assumes nothing.
use Prim.Native.Nat.{ℕ, ◌<◌}
use native.Mathlib.Omega.{arith}
use mathlib.Core.Bool.{Bool, true, false, cond}
use mathlib.Core.List.{List}
use mathlib.Core.Path.{◌≡◌, refl, sym, ap, ◌∙◌}
use lib.Ieee.{ne}
use lib.IntN.{ℤ}
use borrow.Author.Tests.{lt-ltb}
use Rattle.num_convert.specs.Number.{c0}
use Rattle.num_vec2.specs.Vec2.{vadd, vsub, vmul, vnormalize}
use Rattle.num_vec2.specs.declared.vec2.{vec2}
use Rattle.game_records.specs.declared.PlayerInput.{PlayerInput}
use Rattle.game_tuning.specs.Tuning.{tuning_of}
use Rattle.game_tuning.specs.declared.Tuning.{Tuning}
use Rattle.map_tiles.specs.Map.{is_map}
use Rattle.map_tiles.specs.declared.tiles.Sides.{Sides}
use Rattle.map_tiles.specs.declared.point.Tile.TheVariants.{Normal, Unhookable}
use Rattle.map_lines.specs.Line.{walk_line, check_line}
use Rattle.character_hook.specs.Flying.{flown}
use Rattle.character_hook.specs.Hooking.{fly, strike, hold}
use Rattle.character_hook.specs.declared.hooking.Flight.{Flight}
use Rattle.character_hook.specs.declared.hook.CharacterId.{CharacterId}
use Rattle.character_hook.specs.declared.hook.Hook.{Hook}
use Rattle.character_hook.specs.declared.hook.Hook.TheVariants.{Flying, Attached, Retracting0}
use Rattle.character.specs.Tick.{steer, caught, flight, hooked, tick_at, tick}
use Rattle.character.specs.declared.Character.{Character}
use Rattle.character.specs.declared.Slot.{Slot}
use Rattle.character_cases.specs.Holding.{HookAfter}
use Rattle.world_laws.specs.Flight.{flown_to, too_long, line_end, HooksEnd}
use Rattle.world_laws.specs.Walks.{hook_fired}
use Rattle.std.specs.Prelude.{Option, None, Result, Ok, Err}
use Rattle.map_tiles.specs.declared.point.Tile.{Tile}
use Rattle.game_refusals.specs.declared.Refusal.{Refusal}
use Rattle.std.specs.Prelude.{Some}

-- the end of the line
fly_end : (p from dir : vec2) (t : Tuning) → (fly from dir p t).to ≡ line_end p from dir t
unfolding fly
fly_end p from dir t = go (too_long p (flown_to from dir t) t) _ _
  where
    go : (b : Bool) (x y : Flight) → (cond b x y).to ≡ cond b x.to y.to
    go true x y = refl
    go false x y = refl

-- the hook where nothing is met, counted as a hook that holds nobody is
fly_hook : (p from dir : vec2) (t : Tuning) (z : ℤ) → hold (fly from dir p t).hook z ≡ cond (too_long p (flown_to from dir t) t) (Retracting0 (line_end p from dir t)) (Flying (line_end p from dir t) dir)
unfolding fly hold
fly_hook p from dir t z = go (too_long p (flown_to from dir t) t) refl
  where
    far : vec2
    far = vadd p (vmul (vnormalize (vsub (flown_to from dir t) p)) t.hook_length)

    go : (b : Bool) → too_long p (flown_to from dir t) t ≡ b → hold (cond {A = Flight} b (record { to = far; hook = Retracting0 far }) (record { to = flown_to from dir t; hook = Flying (flown_to from dir t) dir })).hook z ≡ cond b (Retracting0 (cond b far (flown_to from dir t))) (Flying (cond b far (flown_to from dir t)) dir)
    go true e = refl
    go false e = refl

walked : (w : Result (Option (vec2 × Tile)) Refusal) (hit : Option (vec2 × Tile)) → w ≡ Ok hit → w ≡ Ok hit
walked (Err why) hit e = let z : ◌≡◌ {A = ℕ} 0 1 = cc in absurd (omega arith)
walked (Ok h) hit e = let q : h ≡ hit = cc in ap Ok q

module _ (n : ℕ) (c : Character) (id : CharacterId) (ss : List Slot) (s : Sides) (ts : List ℕ) (i : PlayerInput) (tunings : List ℤ) (from dir : vec2) (m : is_map s ts ≡ true) (l : id.0 < n) (f : hook_fired c i ≡ Flying from dir) (off : ne (tuning_of tunings).player_hooking c0 ≡ false) where
  abbrev t : Tuning
  t = tuning_of tunings

  abbrev end : vec2
  end = line_end c.pos from dir t

  line_is : (hit : Option (vec2 × Tile)) → check_line s ts from end ≡ Ok hit → walk_line s ts from (fly from dir c.pos t).to ≡ Ok hit
  unfolding check_line
  line_is hit e = rw (fly_end c.pos from dir t) (walked (walk_line s ts from end) hit (sym (rw m) ∙ e))

  flight_is : (hit : Option (vec2 × Tile)) → check_line s ts from end ≡ Ok hit → flight n (hook_fired c i) c.pos id.0 ss s ts t ≡ Ok (strike (fly from dir c.pos t).hook hit)
  unfolding flown caught
  flight_is hit e = rw (f, line_is hit e, off)

  tick_is : (hit : Option (vec2 × Tile)) (h : Hook) → check_line s ts from end ≡ Ok hit → hold (strike (fly from dir c.pos t).hook hit) t.hook_hold ≡ h → HookAfter h (tick n c id ss s ts i tunings)
  unfolding tick tick_at steer hooked
  tick_is hit h e q = rw (m, lt-ltb id.0 n l, flight_is hit e) q

pub hooks_end_lem : HooksEnd
unfolding strike hold
hooks_end_lem n c id ss s ts i tunings from dir m l f off =
    let on = tick_is n c id ss s ts i tunings from dir m l f off in
    record {
      hits = λ q e. on (Some (q, Normal)) (Attached q) e refl;
      bounces = λ q e. on (Some (q, Unhookable)) (Retracting0 q) e refl;
      misses = λ e. on None _ e (fly_hook c.pos from dir (tuning_of tunings) _);
    }
