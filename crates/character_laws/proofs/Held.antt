-- Whom a hook holds after a tick, a move and a record. Assumes nothing.
use Prim.Native.Nat.{ℕ, suc, ◌+◌, ◌-◌, ◌^◌}
use native.Mathlib.Omega.{arith}
use mathlib.Core.Bool.{Bool, true, false, cond, true≢false}
use mathlib.Core.List.{List}
use mathlib.Core.Path.{◌≡◌, refl, sym, ap, subst}
use lib.Dec.{eqb, ltb}
use lib.Ieee.{Float, lt, ne}
use lib.IntN.{ℤ, pos, negsuc}
use borrow.Author.Tests.{eq-eqb, eqb-true, eqb-false}
use Rattle.base_turns.proofs.Kept.{fold-kept}
use Rattle.num_convert.specs.Casts.{cast_signed, cast_unsigned}
use Rattle.num_convert.specs.Number.{c0}
use Rattle.num_vec2.specs.Vec2.{vdistance, closest_point_on_line}
use Rattle.num_vec2.specs.declared.vec2.{vec2}
use Rattle.game_constants.specs.Constants.{character_size}
use Rattle.game_records.specs.declared.PlayerInput.{PlayerInput}
use Rattle.game_records.specs.declared.Tick.{Tick}
use Rattle.game_tuning.specs.Tuning.{hold_of}
use Rattle.game_tuning.specs.declared.Tuning.{Tuning}
use Rattle.map_tiles.specs.declared.point.Tile.TheVariants.{Open, Normal, Deadly, Unhookable}
use Rattle.map_tiles.specs.declared.tiles.Sides.{Sides}
use Rattle.map_lines.specs.Line.{walk_line}
use Rattle.character_motion.specs.Controls.{grounded}
use Rattle.character_walk.specs.Walking.{ramped_move}
use Rattle.character_hook.specs.Hook.{id_of, on_grabbed, holds, net_state, net_hooked_player, attached_or_grabbed, hook_from_net}
use Rattle.character_hook.specs.Hooking.{fired, fire, fly, strike, closer, nearer, grab, retract, hold}
use Rattle.character_hook.specs.Flying.{struck_on, flown}
use Rattle.character_hook.specs.declared.hook.Hook.{Hook}
use Rattle.character_hook.specs.declared.hook.Hook.TheVariants.{Retracted, Idle, Flying, Grabbed, Attached, Retracting0, Retracting1, Retracting2}
use Rattle.character_hook.specs.declared.hooking.Flight.{Flight}
use Rattle.character_hook.specs.declared.hooking.Nearest.{Nearest}
use Rattle.character_hook.specs.declared.flying.Way.{Way}
use Rattle.character_hook.specs.declared.flying.Way.TheVariants as way
use Rattle.character.specs.Records.{core_of, from_net}
use Rattle.character.specs.Tick.{slot_at, steer, nearest_turn, nearest, caught, flight, hooked, ticked, tick_at}
use Rattle.character.specs.Walk.{moved_to, player_walk, rested, after_box, move_at}
use Rattle.character.specs.declared.Character.{Character}
use Rattle.character.specs.declared.Slot.{Slot}
use Rattle.character_laws.proofs.Choices.{either}
use Rattle.character_laws.proofs.Others.{Then}
use Rattle.std.specs.Prelude.{Option, None, Result, Ok, Err}
use Rattle.map_tiles.specs.declared.point.Tile.{Tile}
use Rattle.map_walks.specs.declared.moves.Body.{Body}
use Rattle.game_refusals.specs.declared.Refusal.{Refusal}
use Rattle.std.specs.Prelude.{Some}

-- ---- nobody is held but who has P
abbrev pub Only : (ℕ → Type 0) → Hook → Type 0
Only P h = on_grabbed (λ c t. P c.0) (Unit {0}) h

pub only_holds : (P : ℕ → Type 0) (h : Hook) (k : ℕ) → Only P h → holds h k ≡ true → P k
unfolding holds
only_holds P Retracted k p e = absurd (true≢false (sym e))
only_holds P Idle k p e = absurd (true≢false (sym e))
only_holds P (Flying a d) k p e = absurd (true≢false (sym e))
only_holds P (Grabbed c t) k p e = subst P (eqb-true c.0 k e) p
only_holds P (Attached a) k p e = absurd (true≢false (sym e))
only_holds P (Retracting0 a) k p e = absurd (true≢false (sym e))
only_holds P (Retracting1 a) k p e = absurd (true≢false (sym e))
only_holds P (Retracting2 a) k p e = absurd (true≢false (sym e))

-- by what P has for everybody whom h holds
pub holds_only : (P Q : ℕ → Type 0) (h : Hook) → Only P h → ((k : ℕ) → holds h k ≡ true → P k → Q k) → Only Q h
unfolding holds
holds_only P Q Retracted p f = tt
holds_only P Q Idle p f = tt
holds_only P Q (Flying a d) p f = tt
holds_only P Q (Grabbed c t) p f = f c.0 (eq-eqb c.0 c.0 refl) p
holds_only P Q (Attached a) p f = tt
holds_only P Q (Retracting0 a) p f = tt
holds_only P Q (Retracting1 a) p f = tt
holds_only P Q (Retracting2 a) p f = tt

module _ (P : ℕ → Type 0) where
  -- ---- a tick
  fired_only : (h : Hook) (p d : vec2) → Only P h → Only P (fired h p d)
  unfolding fired
  fired_only Retracted p d k = tt
  fired_only Idle p d k = tt
  fired_only (Flying a b) p d k = tt
  fired_only (Grabbed c t) p d k = k
  fired_only (Attached a) p d k = tt
  fired_only (Retracting0 a) p d k = tt
  fired_only (Retracting1 a) p d k = tt
  fired_only (Retracting2 a) p d k = tt

  fire_only : (h : Hook) (pressed : Bool) (p d : vec2) → Only P h → Only P (fire h pressed p d)
  unfolding fire
  fire_only h pressed p d k = either (Only P) pressed (fired_only h p d k) tt

  fly_only : (p d c : vec2) (t : Tuning) → Only P (fly p d c t).hook
  unfolding fly
  fly_only p d c t = either (λ (f : Flight). Only P f.hook) (lt t.hook_length _) tt tt

  strike_only : (h : Hook) (hit : Option (vec2 × Tile)) → Only P h → Only P (strike h hit)
  unfolding strike
  strike_only h None k = k
  strike_only h (Some (p, Open)) k = k
  strike_only h (Some (p, Normal)) k = tt
  strike_only h (Some (p, Deadly)) k = k
  strike_only h (Some (p, Unhookable)) k = tt

  -- the hook after its flight
  abbrev WayOnly : Result Way Refusal → Type 0
  WayOnly (Err e) = Unit {0}
  WayOnly (Ok (way.Still h)) = Only P h
  WayOnly (Ok (way.Along from to h)) = Only P h

  flown_only : (h : Hook) (p : vec2) (s : Sides) (ts : List ℕ) (t : Tuning) → Only P h → WayOnly (flown h p s ts t)
  unfolding flown retract
  flown_only Retracted p s ts t k = tt
  flown_only Idle p s ts t k = tt
  flown_only (Flying a d) p s ts t k = go (walk_line s ts a (fly a d p t).to)
    where
      go : (w : Result (Option (vec2 × Tile)) Refusal) → WayOnly (struck_on a (fly a d p t) w)
      go (Err e) = tt
      go (Ok hit) = strike_only (fly a d p t).hook hit (fly_only a d p t)
  flown_only (Grabbed c m) p s ts t k = k
  flown_only (Attached a) p s ts t k = tt
  flown_only (Retracting0 a) p s ts t k = tt
  flown_only (Retracting1 a) p s ts t k = tt
  flown_only (Retracting2 a) p s ts t k = tt

  hold_only : (z : ℤ) (h : Hook) → Only P h → Only P (hold h z)
  unfolding hold
  hold_only z Retracted k = tt
  hold_only z Idle k = tt
  hold_only z (Flying a d) k = tt
  hold_only z (Grabbed c t) k = either (Only P) (ltb (hold_of z) (t + 1)) tt k
  hold_only z (Attached a) k = tt
  hold_only z (Retracting0 a) k = tt
  hold_only z (Retracting1 a) k = tt
  hold_only z (Retracting2 a) k = tt

  -- ---- who is met has P, where everybody who is there has it
  module _ (ss : List Slot) (there : (k : ℕ) → (slot_at ss k).present ≡ true → P k) where
    abbrev NearestOnly : Option Nearest → Type 0
    NearestOnly None = Unit {0}
    NearestOnly (Some m) = P m.cid.0

    closer-only : (best : Option Nearest) (j : ℕ) (distance : Float) → NearestOnly best → P j → NearestOnly (closer best (id_of j) distance)
    unfolding closer
    closer-only None j distance b p = p
    closer-only (Some m) j distance b p = either NearestOnly (lt distance m.distance) p b

    turn-only : (id : ℕ) (from to : vec2) (j : ℕ) (best : Option Nearest) → NearestOnly best → NearestOnly (nearest_turn ss id from to j best)
    unfolding nearer
    turn-only id from to j best b = either NearestOnly (eqb j id) b (go (slot_at ss j).present refl)
      where
        go : (d : Bool) → (slot_at ss j).present ≡ d → NearestOnly (cond d (nearer best (id_of j) (slot_at ss j).character.pos from to) best)
        go true e = either NearestOnly (lt (vdistance (slot_at ss j).character.pos (closest_point_on_line (slot_at ss j).character.pos from to)) character_size) (closer-only best j (vdistance from (slot_at ss j).character.pos) b (there j e)) b
        go false e = b

    nearest-only : (n id : ℕ) (from to : vec2) → NearestOnly (nearest n ss id from to)
    unfolding nearest
    nearest-only n id from to = fold-kept (nearest_turn ss id from to) NearestOnly (turn-only id from to) n 0 None tt

    grab-only : (h : Hook) (best : Option Nearest) → Only P h → NearestOnly best → Only P (grab h best)
    unfolding grab
    grab-only h None k b = k
    grab-only h (Some m) k b = b

    abbrev FlightOnly : Result Hook Refusal → Type 0
    FlightOnly (Err e) = Unit {0}
    FlightOnly (Ok h) = Only P h

    caught-only : (n : ℕ) (w : Result Way Refusal) (id : ℕ) (hooking : Float) → WayOnly w → FlightOnly (caught n w id ss hooking)
    unfolding caught
    caught-only n (Err e) id hooking k = tt
    caught-only n (Ok (way.Still h)) id hooking k = k
    caught-only n (Ok (way.Along from to h)) id hooking k = either (Only P) (ne hooking c0) (grab-only h (nearest n ss id from to) k (nearest-only n id from to)) k

    pub tick-only : (n : ℕ) (c : Character) (id : ℕ) (s : Sides) (ts : List ℕ) (i : PlayerInput) (t : Tuning) → Only P c.hook → Then (λ a. Only P a.me.hook) (tick_at n c id ss s ts i t)
    unfolding tick_at steer hooked
    tick-only n c id s ts i t k =
        let on_ground = grounded s ts c.pos in
        let d = steer c on_ground i t in
        go d on_ground (flight n d.hook c.pos id ss s ts t) (caught-only n (flown d.hook c.pos s ts t) id t.player_hooking (flown_only d.hook c.pos s ts t (fire_only c.hook _ c.pos _ k)))
      where
        go : (d : Character) (on_ground : Bool) (f : Result Hook Refusal) → FlightOnly f → Then (λ a. Only P a.me.hook) (ticked n d on_ground id ss t f)
        go d on_ground (Err e) q = tt
        go d on_ground (Ok h) q = hold_only t.hook_hold h q

  -- ---- a record, and back: who is held is read as nobody else
  player_only : (m : ℕ) (p : vec2) (t : Tick) → P m → Only P (attached_or_grabbed p (cast_signed m) t)
  unfolding attached_or_grabbed cast_signed cast_unsigned
  player_only m p t k = go (ltb m (2 ^ 31))
    where
      signed : (b : Bool) → eqb (2 ^ 32 - suc m) 0 ≡ b → Only P (cond b (Attached p) (Grabbed (id_of (2 ^ 32 - suc (2 ^ 32 - suc m))) (cast_unsigned t.0)))
      signed true e = tt
      signed false e = subst P (let f = eqb-false (2 ^ 32 - suc m) 0 e in omega (arith, f)) k

      go : (a : Bool) → Only P (attached_or_grabbed p (cond a (pos m) (negsuc (2 ^ 32 - suc m))) t)
      go true = k
      go false = signed (eqb (2 ^ 32 - suc m) 0) refl

  net_only : (h : Hook) (p d : vec2) (t : Tick) → Only P h → Only P (hook_from_net (net_state h) p d (net_hooked_player h) t)
  unfolding hook_from_net net_state net_hooked_player attached_or_grabbed
  net_only Retracted p d t k = tt
  net_only Idle p d t k = tt
  net_only (Flying a b) p d t k = tt
  net_only (Grabbed c m) p d t k = player_only c.0 p t k
  net_only (Attached a) p d t k = tt
  net_only (Retracting0 a) p d t k = tt
  net_only (Retracting1 a) p d t k = tt
  net_only (Retracting2 a) p d t k = tt

  pub record_only : (c : Character) → Only P c.hook → Only P (from_net (core_of c)).hook
  unfolding from_net core_of
  record_only c k = net_only c.hook _ _ _ k

-- ---- a move changes position and velocity alone
abbrev pub Rests : (Character → Type 0) → Result Character Refusal → Type 0
Rests P (Err e) = Unit {0}
Rests P (Ok c) = P c

pub move_rest : (n : ℕ) (c : Character) (id : ℕ) (ss : List Slot) (s : Sides) (ts : List ℕ) (t : Tuning) → Rests (λ d. d ≡ moved_to c d.pos d.vel) (move_at n c id ss s ts t)
unfolding move_at
move_rest n c id ss s ts t = go (ramped_move s ts c.pos c.vel t)
  where
    on : (v : vec2) (w : Result vec2 Refusal) → Rests (λ d. d ≡ moved_to c d.pos d.vel) (rested c v w)
    on v (Err e) = tt
    on v (Ok p) = refl

    go : (b : Result Body Refusal) → Rests (λ d. d ≡ moved_to c d.pos d.vel) (after_box n c id ss t b)
    go (Err e) = tt
    go (Ok b) = on b.vel (player_walk n ss id c.pos b.pos t.player_collision)

rests_map : (P Q : Character → Type 0) → ((d : Character) → P d → Q d) → (o : Result Character Refusal) → Rests P o → Rests Q o
rests_map P Q f (Err e) h = tt
rests_map P Q f (Ok d) h = f d h

pub move_hook : (n : ℕ) (c : Character) (id : ℕ) (ss : List Slot) (s : Sides) (ts : List ℕ) (t : Tuning) → Rests (λ d. d.hook ≡ c.hook) (move_at n c id ss s ts t)
move_hook n c id ss s ts t = rests_map (λ d. d ≡ moved_to c d.pos d.vel) (λ d. d.hook ≡ c.hook) (λ d e. ap (λ (x : Character). x.hook) e) (move_at n c id ss s ts t) (move_rest n c id ss s ts t)
