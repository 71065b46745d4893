-- The lines of the output. Definitions only.
use Rattle.std.specs.Prelude.{ℕ, ◌+◌, ◌*◌, List, [], ◌∷◌, ℤ, pos, negsuc, replicate}
use Rattle.game_records.specs.Numbers.{core_count, core_numbers}
use Rattle.game_records.specs.declared.CharacterCore.{CharacterCore}
use Rattle.text_decimal.specs.Lines.{line}

-- the heading: "call answer id tick x y vel_x vel_y angle direction jumped hooked_player hook_state hook_tick hook_x hook_y hook_dx hook_dy" and byte 10
abbrev pub heading : List ℕ
heading = 99 ∷ 97 ∷ 108 ∷ 108 ∷ 32 ∷ 97 ∷ 110 ∷ 115 ∷ 119 ∷ 101 ∷ 114 ∷ 32 ∷ 105 ∷ 100 ∷ 32 ∷ 116 ∷ 105 ∷ 99 ∷ 107 ∷ 32 ∷ 120 ∷ 32 ∷ 121 ∷ 32 ∷ 118 ∷ 101 ∷ 108 ∷ 95 ∷ 120 ∷ 32 ∷ 118 ∷ 101 ∷ 108 ∷ 95 ∷ 121 ∷ 32 ∷ 97 ∷ 110 ∷ 103 ∷ 108 ∷ 101 ∷ 32 ∷ 100 ∷ 105 ∷ 114 ∷ 101 ∷ 99 ∷ 116 ∷ 105 ∷ 111 ∷ 110 ∷ 32 ∷ 106 ∷ 117 ∷ 109 ∷ 112 ∷ 101 ∷ 100 ∷ 32 ∷ 104 ∷ 111 ∷ 111 ∷ 107 ∷ 101 ∷ 100 ∷ 95 ∷ 112 ∷ 108 ∷ 97 ∷ 121 ∷ 101 ∷ 114 ∷ 32 ∷ 104 ∷ 111 ∷ 111 ∷ 107 ∷ 95 ∷ 115 ∷ 116 ∷ 97 ∷ 116 ∷ 101 ∷ 32 ∷ 104 ∷ 111 ∷ 111 ∷ 107 ∷ 95 ∷ 116 ∷ 105 ∷ 99 ∷ 107 ∷ 32 ∷ 104 ∷ 111 ∷ 111 ∷ 107 ∷ 95 ∷ 120 ∷ 32 ∷ 104 ∷ 111 ∷ 111 ∷ 107 ∷ 95 ∷ 121 ∷ 32 ∷ 104 ∷ 111 ∷ 111 ∷ 107 ∷ 95 ∷ 100 ∷ 120 ∷ 32 ∷ 104 ∷ 111 ∷ 111 ∷ 107 ∷ 95 ∷ 100 ∷ 121 ∷ 10 ∷ []

-- a line: which call, its answer, whose record, and the numbers of that
unfoldable pub line_bytes : ℤ → ℤ → ℤ → List ℤ → List ℕ
line_bytes call answer id ns = line (call ∷ answer ∷ id ∷ ns)

-- how many values it has, and the most bytes: a value has at most eleven, and one after it
abbrev pub value_count : ℕ
value_count = 3 + core_count

abbrev pub most_line : ℕ
most_line = 12 * value_count

-- the line of a record
abbrev pub record_bytes : ℤ → ℤ → ℤ → CharacterCore → List ℕ
record_bytes call answer id n = line_bytes call answer id (core_numbers n)

-- the line of an answer without a record: id -1 and zeros
abbrev pub answer_bytes : ℤ → ℤ → List ℕ
answer_bytes call answer = line_bytes call answer (negsuc 0) (replicate core_count (pos 0))
