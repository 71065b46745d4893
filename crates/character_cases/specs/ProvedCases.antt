-- 'Proved cases, as one joint fact' of document 01, over the definitions. Definitions only; proofs/Proved.antt proves it.
use Rattle.std.specs.Prelude.{ℕ, ◌≤◌, ◌<◌, true, List, [], ◌∷◌, ◌≡◌, ℤ, pos, negsuc, get_or, Float}
use Rattle.std.specs.Float.{nan, binary32}
use Rattle.std.specs.Float.Ieee.{of_bits, to_bits, add}
use Rattle.num_root.specs.Root.{root}
use Rattle.num_convert.specs.Whole.{round_to_i32}
use Rattle.num_convert.specs.Convert.{i32_to_f32, quantize, quantize256ths}
use Rattle.num_convert.specs.Number.{saturated_add}
use Rattle.num_vec2.specs.Vec2.{vnew}
use Rattle.num_vec2.specs.declared.vec2.{vec2}
use Rattle.map_corners.specs.Tile.{c14, tile_at}
use Rattle.map_tiles.specs.declared.point.Tile.TheVariants.{Normal}
use Rattle.map_lines.specs.Line.{check_line}
use Rattle.character_hook.specs.declared.hook.CharacterId.{CharacterId}
use Rattle.character_hook.specs.declared.hook.Hook.TheVariants.{Retracted, Grabbed}
use Rattle.character_hook.specs.Hooking.{fire, hold}
use Rattle.aim_rule.specs.Angle.{net_angle}
use Rattle.character_hook.specs.Hook.{tick_of}
use Rattle.character.specs.declared.Character.{Character}
use Rattle.character.specs.Records.{most_tick}
use Rattle.character.specs.Character.{with_hook}
use Rattle.character.specs.Tick.{tick}
use Rattle.character.specs.declared.Slot.{Slot}
use Rattle.game_input.specs.Inputs.{hooks}
use Rattle.game_records.specs.declared.PlayerInput.{PlayerInput}
use Rattle.game_tuning.specs.Tuning.{hook_hold}
use Rattle.map_tiles.specs.Map.{is_map}
use Rattle.map_tiles.specs.declared.tiles.Sides.{Sides}
use Rattle.character.specs.Records as characters
use Rattle.character_cases.specs.Holding.{HookAfter}
use Rattle.std.specs.Prelude.{Ok}
use Rattle.std.specs.Prelude.{Some}

-- a whole number as f32, and 17.5
abbrev pub n : ℤ → Float
n = i32_to_f32

abbrev pub seventeen_and_ahalf : Float
seventeen_and_ahalf = of_bits binary32 0x418c_0000

-- (100, 100), which is on tile (1, 1) of two by two
abbrev pub start : vec2
start = vnew (of_bits binary32 0x42c8_0000) (of_bits binary32 0x42c8_0000)

-- c, whose hook tick a record holds, quantizes to a character of which P holds
abbrev pub QuantizesTo : (Character → Type 0) → Character → Type 0
QuantizesTo P c = tick_of c.hook ≤ most_tick → (d : Character) × (characters.quantize c ≡ Ok d) × P d

pub record ProvedCases : Type 0 where
  -- (1) root of 0x00000001 is 0x1A3504F3
  pub root_of_the_least : to_bits binary32 (root binary32 (of_bits binary32 0x0000_0001)) ≡ 0x1a35_04f3
  -- (2) −0.5 rounds to −1, 2.5 to 3, 0x3EFFFFFF to 0
  pub rounds : (round_to_i32 (of_bits binary32 0xbf00_0000) ≡ negsuc 0) × (round_to_i32 (of_bits binary32 0x4020_0000) ≡ pos 3) × (round_to_i32 (of_bits binary32 0x3eff_ffff) ≡ pos 0)
  -- (3) 2,147,483,647 as f32 returns as itself
  pub largest_returns : round_to_i32 (i32_to_f32 (pos 2147483647)) ≡ pos 2147483647
  -- (4) velocities ±1/512 quantize to ±1/256
  pub ties_quantize : (quantize256ths (of_bits binary32 0x3b00_0000) ≡ of_bits binary32 0x3b80_0000) × (quantize256ths (of_bits binary32 0xbb00_0000) ≡ of_bits binary32 0xbb80_0000)
  pub character_ties_quantize : (c : Character) → c.vel ≡ vnew (of_bits binary32 0x3b00_0000) (of_bits binary32 0xbb00_0000) → QuantizesTo (λ d. d.vel ≡ vnew (of_bits binary32 0x3b80_0000) (of_bits binary32 0xbb80_0000)) c
  -- (5) position 17.5 quantizes to 18; its right corner is in column 1 before and after, on a map of two columns
  pub half_way : (quantize seventeen_and_ahalf ≡ of_bits binary32 0x4190_0000) × (tile_at 2 (add binary32 seventeen_and_ahalf c14) ≡ 1) × (tile_at 2 (add binary32 (quantize seventeen_and_ahalf) c14) ≡ 1)
  -- (6) position not-a-number quantizes to 0
  pub not_a_number : quantize nan ≡ of_bits binary32 0
  pub character_not_a_number : (c : Character) → c.pos ≡ vnew nan nan → QuantizesTo (λ d. d.pos ≡ vnew (of_bits binary32 0) (of_bits binary32 0)) c
  -- (7) saturated_add(−5, 5, 7, 1) is 7; with −1 it is 5
  pub saturates : (saturated_add (n (negsuc 4)) (n (pos 5)) (n (pos 7)) (n (pos 1)) ≡ n (pos 7)) × (saturated_add (n (negsuc 4)) (n (pos 5)) (n (pos 7)) (n (negsuc 0)) ≡ n (pos 5))
  -- (8) with the hook input held and a hold of 60, Grabbed tick 59 becomes 60; 60 becomes Retracted
  pub holds : (c : CharacterId) (p d : vec2) → (hold (fire (Grabbed c 59) true p d) (pos 60) ≡ Grabbed c 60) × (hold (fire (Grabbed c 60) true p d) (pos 60) ≡ Retracted)
  pub tick_holds : (n : ℕ) (c : Character) (id cid : CharacterId) (ss : List Slot) (s : Sides) (ts : List ℕ) (i : PlayerInput) (tunings : List ℤ) → get_or tunings hook_hold (pos 0) ≡ pos 60 → is_map s ts ≡ true → id.0 < n → hooks i ≡ true → HookAfter (Grabbed cid 60) (tick n (with_hook c (Grabbed cid 59)) id ss s ts i tunings) × HookAfter Retracted (tick n (with_hook c (Grabbed cid 60)) id ss s ts i tunings)
  -- (9) angles: (1,1) 201, (−1,0) 804, (0,−1) −402
  pub angles : (net_angle (pos 1) (pos 1) ≡ pos 201) × (net_angle (negsuc 0) (pos 0) ≡ pos 804) × (net_angle (pos 0) (negsuc 0) ≡ negsuc 401)
  -- (10) a line of length 0 tests a not-a-number point, so tile (0,0): the only solid one of two by two
  pub line_of_length_0 : check_line (record { width = 2; height = 2 }) (1 ∷ 0 ∷ 0 ∷ 0 ∷ []) start start ≡ Ok (Some (vnew nan nan, Normal))
