-- A read that is refused leaves its buffer. Assumes nothing.
use Prim.Native.Nat.{ℕ}
use mathlib.Core.Bool.{◌&&◌}
use mathlib.Core.List.{List}
use mathlib.Core.Path.{refl}
use lib.Dec.{ltb}
use lib.IntN.{ℤ}
use Rattle.game_records.specs.Numbers.{core_count}
use Rattle.map_tiles.specs.declared.tiles.Sides.{Sides}
use Rattle.character.specs.Tick.{seats}
use Rattle.world.specs.Calls.{place_of}
use Rattle.world.specs.Readers.{read_of}
use Rattle.world.specs.declared.reading.Query.{Query}
use Rattle.world.specs.ReadAnswer.{ReadAnswer}
use Rattle.world.specs.ReadAnswer as reading
use Rattle.world.proofs.Seats.{by_test}
use Rattle.send_rule.specs.Shown.{shown}
use Rattle.send_rule.specs.declared.Screen.{Screen}
use Rattle.search_rule.specs.Search.{SearchAnswer, Refused, NoWay, WayTo, search}
use Rattle.world_numbers.specs.Encoding.{world_count}
use Rattle.world_numbers.specs.Decoding.{decoding}
use Rattle.send_numbers.specs.Copies.{screen_count, screen_decoding}
use Rattle.world_buffers.specs.Buffers.{has}
use Rattle.world_buffers.specs.Readers.{query_count, reading_told, read_in}
use Rattle.send_buffers.specs.Screens.{record_shown, shown_in}
use Rattle.search_calls.specs.Numbers.{way_count, search_told, search_in}
use Rattle.told_numbers.specs.Refused.{Leaves, ReadersLeave}

module _ (out : List ℤ) where
  reading_leaves : (r : ReadAnswer) → Leaves out (reading_told out r)
  reading_leaves (reading.Refused k) h = refl
  reading_leaves (reading.Record c) h = absurd (h refl)
  reading_leaves (reading.FloorMark g) h = absurd (h refl)
  reading_leaves (reading.PlayerInput i) h = absurd (h refl)
  reading_leaves (reading.Tuning z) h = absurd (h refl)

  answer_leaves : (a : SearchAnswer) → Leaves out (search_told out a)
  answer_leaves (Refused k) h = refl
  answer_leaves NoWay h = absurd (h refl)
  answer_leaves (WayTo u) h = absurd (h refl)

  record_leaves : (z : Screen) (id : ℤ) → Leaves out (record_shown z id out)
  unfolding record_shown
  record_leaves z id = let k = place_of seats id in by_test (Leaves out) (ltb k seats) (λ e. by_test (Leaves out) (shown z k).present (λ f h. absurd (h refl)) (λ f h. refl)) (λ e h. refl)

  read_leaves : (q : Query) (l : List ℤ) → Leaves out (read_in q l out)
  unfolding read_in
  read_leaves q l = by_test (Leaves out) (has world_count l && has (query_count q) out) (λ e. reading_leaves (read_of seats (decoding seats l) q)) (λ e h. refl)

  search_leaves : (s : Sides) (ts : List ℕ) (l : List ℤ) (id x y : ℤ) → Leaves out (search_in s ts l id x y out)
  unfolding search_in
  search_leaves s ts l id x y = by_test (Leaves out) (has world_count l && has way_count out) (λ e. answer_leaves (search seats s ts (decoding seats l) id x y)) (λ e h. refl)

  screen_leaves : (l : List ℤ) (id : ℤ) → Leaves out (shown_in l id out)
  unfolding shown_in
  screen_leaves l id = by_test (Leaves out) (has screen_count l && has core_count out) (λ e. record_leaves (screen_decoding seats l) id) (λ e h. refl)

pub readers_leave_lem : ReadersLeave
readers_leave_lem = record { reads = λ q l out. read_leaves out q l; searches = λ s ts l id x y out. search_leaves out s ts l id x y; screens = λ l id out. screen_leaves out l id }
