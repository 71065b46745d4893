-- What is sent, read from an array again, and removed ids as a step lists them. Definitions only.
use Rattle.std.specs.Prelude.{ℕ, ◌≤◌, ◌<◌, true, ◌≡◌, length}
use Rattle.character.specs.Tick.{seats}
use Rattle.world.specs.Removal.{listed, ids_in, is_in}
use Rattle.world.specs.declared.Removed.{Removed}
use Rattle.send_rule.specs.Send.{Sent, first_among}
use Rattle.send_rule.specs.declared.Sending.{Sending}

-- as many items as counted
abbrev pub sent_in : Sending → Sent
sent_in m = record { copies = m.copies; passed = first_among m.count m.items }

-- ids of seats, one for each at most
pub record IsListed (r : Removed) : Type 0 where
  pub ids : r ≡ listed seats (ids_in r)
  pub seat : (k : ℕ) → is_in k (ids_in r) ≡ true → k < seats
  pub fits : length (ids_in r) ≤ seats
