use Rattle.send_calls.proofs.sender.send.Goals as goal
