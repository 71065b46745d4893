-- What `tick` of lib.rs does to a hook without others. Definitions only.
use Rattle.std.specs.Prelude.{ℕ, ◌+◌, Bool, cond, ltb, ℤ, Float, Option, Some, None}
use Rattle.std.specs.Float.Ieee.{lt}
use Rattle.num_convert.specs.Number.{c1_5}
use Rattle.game_constants.specs.Constants.{character_size}
use Rattle.num_vec2.specs.Vec2.{vadd, vsub, vmul, vnormalize, vdistance, closest_point_on_line}
use Rattle.num_vec2.specs.declared.vec2.{vec2}
use Rattle.character_hook.specs.Hook.{on_grabbed}
use Rattle.character_hook.specs.declared.hook.CharacterId.{CharacterId}
use Rattle.character_hook.specs.declared.hook.Hook.{Hook}
use Rattle.character_hook.specs.declared.hook.Hook.TheVariants.{Retracted, Idle, Flying, Grabbed, Attached, Retracting0, Retracting1, Retracting2}
use Rattle.map_tiles.specs.declared.point.Tile.{Tile}
use Rattle.map_tiles.specs.declared.point.Tile.TheVariants.{Open, Normal, Deadly, Unhookable}
use Rattle.game_tuning.specs.Tuning.{hold_of}
use Rattle.game_tuning.specs.declared.Tuning.{Tuning}
use Rattle.character_hook.specs.declared.hooking.Flight.{Flight}
use Rattle.character_hook.specs.declared.hooking.Nearest.{Nearest}

-- an idle hook is fired, any other stays
unfoldable pub fired : Hook → vec2 → vec2 → Hook
fired Idle p d = Flying (vadd p (vmul (vmul d character_size) c1_5)) d
fired Retracted p d = Retracted
fired (Flying a b) p d = Flying a b
fired (Grabbed c t) p d = Grabbed c t
fired (Attached a) p d = Attached a
fired (Retracting0 a) p d = Retracting0 a
fired (Retracting1 a) p d = Retracting1 a
fired (Retracting2 a) p d = Retracting2 a

-- a released button takes the hook back
unfoldable pub fire : Hook → Bool → vec2 → vec2 → Hook
fire h pressed p d = cond pressed (fired h p d) Idle

-- where a flying hook gets to: at most its length from the character, where it begins to come back
unfoldable pub fly : vec2 → vec2 → vec2 → Tuning → Flight
fly p d character t =
    let q = vadd p (vmul d t.hook_fire_speed) in
    let end = vadd character (vmul (vnormalize (vsub q character)) t.hook_length) in
    cond (lt t.hook_length (vdistance q character)) (record { to = end; hook = Retracting0 end }) (record { to = q; hook = Flying q d })

-- a solid tile on the way attaches it, or sends it back
abbrev pub struck_by : Hook → vec2 → Tile → Hook
struck_by h p Open = h
struck_by h p Normal = Attached p
struck_by h p Deadly = h
struck_by h p Unhookable = Retracting0 p

unfoldable pub strike : Hook → Option (vec2 × Tile) → Hook
strike h None = h
strike h (Some (p, t)) = struck_by h p t

-- the first is the nearest so far, a later one where its distance is less
unfoldable pub closer : Option Nearest → CharacterId → Float → Option Nearest
closer None cid distance = Some (record { distance = distance; cid = cid })
closer (Some best) cid distance = cond (lt distance best.distance) (Some (record { distance = distance; cid = cid })) (Some best)

-- of those that are within CHARACTER_SIZE of the way
unfoldable pub nearer : Option Nearest → CharacterId → vec2 → vec2 → vec2 → Option Nearest
nearer best cid q from to = cond (lt (vdistance q (closest_point_on_line q from to)) character_size) (closer best cid (vdistance from q)) best

-- whoever is met is grabbed, for no ticks yet
unfoldable pub grab : Hook → Option Nearest → Hook
grab h None = h
grab h (Some met) = Grabbed met.cid 0

-- one tick of coming back
unfoldable pub retract : Hook → Hook
retract Retracted = Retracted
retract Idle = Idle
retract (Flying p d) = Flying p d
retract (Grabbed c t) = Grabbed c t
retract (Attached p) = Attached p
retract (Retracting0 p) = Retracting1 p
retract (Retracting1 p) = Retracting2 p
retract (Retracting2 p) = Retracted

-- one more tick of holding, up to the hold
abbrev pub held : ℤ → CharacterId → ℕ → Hook
held z c t = cond (ltb (hold_of z) (t + 1)) Retracted (Grabbed c (t + 1))

unfoldable pub hold : Hook → ℤ → Hook
hold h z = on_grabbed (held z) h h
