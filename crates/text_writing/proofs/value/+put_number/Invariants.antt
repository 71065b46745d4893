use Rattle.text_writing.proofs.value.+put_number.Given as goal

-- n falls with each call
abbrev pub decreases-put_number : goal.decreases-put_number
decreases-put_number l = l.n
