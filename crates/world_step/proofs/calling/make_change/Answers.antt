use Rattle.world_step.proofs.calling.make_change.Goals as goal
