use Rattle.world_step.proofs.calling.make_call.Goals as goal
