-- What readers leave in their buffers, by the lengths that they are lent and by who is at an id. Assumes nothing.
use mathlib.Core.List.{List}
use mathlib.Core.Path.{◌≡◌, sym, ap, ◌∙◌}
use lib.IntN.{ℤ}
use lib.ListN.{length}
use borrow.Author.Tests.{eq-eqb, ne_eqb}
use Rattle.game_refusals.specs.Refusals.{bad_length}
use Rattle.character.specs.Tick.{seats}
use Rattle.character.specs.declared.Slot.{Slot}
use Rattle.world.specs.Readers.{seated, of_seated, read_of}
use Rattle.world.specs.declared.World.{World}
use Rattle.world.specs.declared.reading.Query.{Query}
use Rattle.world.specs.ReadAnswer.{ReadAnswer}
use Rattle.world_numbers.specs.Encoding.{world_count}
use Rattle.world_numbers.specs.Decoding.{decoding}
use Rattle.world_buffers.specs.Readers.{query_count, untold, reading_told, read_in}
use Rattle.std.specs.Prelude.{Result}
use Rattle.game_refusals.specs.declared.Refusal.{Refusal}

module _ (q : Query) (l out : List ℤ) where
  pub wrong_world : (length l ≡ world_count → ⊥) → read_in q l out ≡ untold out bad_length
  unfolding read_in
  wrong_world h = rw (ne_eqb (length l) world_count h)

  pub wrong_out : length l ≡ world_count → (length out ≡ query_count q → ⊥) → read_in q l out ≡ untold out bad_length
  unfolding read_in
  wrong_out h g = rw (eq-eqb (length l) world_count h, ne_eqb (length out) (query_count q) g)

  pub right_lengths : length l ≡ world_count → length out ≡ query_count q → read_in q l out ≡ reading_told out (read_of seats (decoding seats l) q)
  unfolding read_in
  right_lengths h g = rw (eq-eqb (length l) world_count h, eq-eqb (length out) (query_count q) g)

-- a query that tells f of who is at an id, where y has been found to be there
pub told-seated : (q : Query) (l out : List ℤ) (id : ℤ) (f : Slot → ReadAnswer) (y z : Result Slot Refusal) → ((w : World) → read_of seats w q ≡ of_seated f (seated seats w id)) → length l ≡ world_count → length out ≡ query_count q → y ≡ seated seats (decoding seats l) id → y ≡ z → read_in q l out ≡ reading_told out (of_seated f z)
told-seated q l out id f y z is h g p e = right_lengths q l out h g ∙ ap (reading_told out) (is (decoding seats l)) ∙ ap (λ (x : Result Slot Refusal). reading_told out (of_seated f x)) (sym p ∙ e)
