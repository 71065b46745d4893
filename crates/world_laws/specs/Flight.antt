-- Where a flying hook ends in a tick: at its length it may still attach. Definitions only; proofs/Flight.antt proves it.
use Rattle.std.specs.Prelude.{ℕ, ◌<◌, Bool, true, false, cond, List, ◌≡◌, ℤ}
use Rattle.std.specs.Float.Ieee.{lt, ne}
use Rattle.num_convert.specs.Number.{c0}
use Rattle.num_vec2.specs.Vec2.{vadd, vsub, vmul, vnormalize, vdistance}
use Rattle.num_vec2.specs.declared.vec2.{vec2}
use Rattle.game_records.specs.declared.PlayerInput.{PlayerInput}
use Rattle.game_tuning.specs.Tuning.{tuning_of}
use Rattle.game_tuning.specs.declared.Tuning.{Tuning}
use Rattle.map_tiles.specs.Map.{is_map}
use Rattle.map_tiles.specs.declared.tiles.Sides.{Sides}
use Rattle.map_tiles.specs.declared.point.Tile.TheVariants.{Normal, Unhookable}
use Rattle.map_lines.specs.Line.{check_line}
use Rattle.character_hook.specs.declared.hook.CharacterId.{CharacterId}
use Rattle.character_hook.specs.declared.hook.Hook.TheVariants.{Flying, Attached, Retracting0}
use Rattle.character.specs.Tick.{tick}
use Rattle.character.specs.declared.Character.{Character}
use Rattle.character.specs.declared.Slot.{Slot}
use Rattle.character_cases.specs.Holding.{HookAfter}
use Rattle.world_laws.specs.Walks.{hook_fired}
use Rattle.std.specs.Prelude.{None, Ok}
use Rattle.std.specs.Prelude.{Some}

-- one tick of flight from a place in a direction
abbrev pub flown_to : vec2 → vec2 → Tuning → vec2
flown_to from dir t = vadd from (vmul dir t.hook_fire_speed)

-- whether that is further from the character at p than the hook's length
abbrev pub too_long : vec2 → vec2 → Tuning → Bool
too_long p q t = lt t.hook_length (vdistance q p)

-- the end of the line that is checked: at most the hook's length from the character
abbrev pub line_end : vec2 → vec2 → vec2 → Tuning → vec2
line_end p from dir t =
    let q = flown_to from dir t in
    cond (too_long p q t) (vadd p (vmul (vnormalize (vsub q p)) t.hook_length)) q

-- a tick of a character whose hook flies from a place in a direction, with player hooking 0: what the line meets decides, also at the hook's length
pub record FlightEnds (n : ℕ) (c : Character) (id : CharacterId) (ss : List Slot) (s : Sides) (ts : List ℕ) (i : PlayerInput) (tunings : List ℤ) (from dir : vec2) : Type 0 where
  pub hits : (q : vec2) → check_line s ts from (line_end c.pos from dir (tuning_of tunings)) ≡ Ok (Some (q, Normal)) → HookAfter (Attached q) (tick n c id ss s ts i tunings)
  pub bounces : (q : vec2) → check_line s ts from (line_end c.pos from dir (tuning_of tunings)) ≡ Ok (Some (q, Unhookable)) → HookAfter (Retracting0 q) (tick n c id ss s ts i tunings)
  pub misses : check_line s ts from (line_end c.pos from dir (tuning_of tunings)) ≡ Ok None → let end = line_end c.pos from dir (tuning_of tunings) in HookAfter (cond (too_long c.pos (flown_to from dir (tuning_of tunings)) (tuning_of tunings)) (Retracting0 end) (Flying end dir)) (tick n c id ss s ts i tunings)

-- on every map, among any others, with any tunings
abbrev pub HooksEnd : Type 0
HooksEnd = (n : ℕ) (c : Character) (id : CharacterId) (ss : List Slot) (s : Sides) (ts : List ℕ) (i : PlayerInput) (tunings : List ℤ) (from dir : vec2) → is_map s ts ≡ true → id.0 < n → hook_fired c i ≡ Flying from dir → ne (tuning_of tunings).player_hooking c0 ≡ false → FlightEnds n c id ss s ts i tunings from dir
