-- A world and what a step publishes, each as one word: the digest of its numbers. Definitions only.
use Rattle.std.specs.Prelude.{ℕ, List}
use Rattle.world.specs.declared.Published.{Published}
use Rattle.world.specs.declared.Removed.{Removed}
use Rattle.world.specs.declared.World.{World}
use Rattle.test_common.specs.Digest.{mixed_first, digest_of}
use Rattle.world_numbers.specs.Encoding.{encoding, records_encoding}

abbrev pub world_digest : World → ℕ
world_digest w = digest_of (encoding w)

-- the records, then the ids of who is removed
abbrev pub told_digest : List Published → Removed → ℕ
told_digest rs r = mixed_first r.count r.ids (digest_of (records_encoding rs))
