use mathlib.Core.Path.{ap, ◌∙◌, sym}
use Rattle.world_numbers.specs.Encoding.{encoding}
use Rattle.world_buffers.specs.Buffers.{accepted_in, fresh_in}
use Rattle.world_buffers.proofs.Answers.{no_world, a_world}
use Rattle.world_buffers.proofs.buffers.fresh_in.Goals as goal

pub returns-then-world-ne-WORLD : goal.returns-then-world-ne-WORLD
unfolding fresh_in
returns-then-world-ne-WORLD c = no_world c.args.world.now _ c.if-world-ne-WORLD.true

pub fresh-requires : goal.fresh-requires
fresh-requires c = tt

pub encode-requires : goal.encode-requires
encode-requires c = c.if-world-ne-WORLD.false

pub shape_of-world : goal.shape_of-world
shape_of-world c = c.encode.auto.numbers

pub returns : goal.returns
unfolding fresh_in
returns c =
    a_world c.args.world.now _ c.if-world-ne-WORLD.false
    ∙ ap accepted_in (sym (c.encode.ensures ∙ ap encoding c.fresh.ensures))
