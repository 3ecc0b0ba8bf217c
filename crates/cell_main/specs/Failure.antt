-- What is told on standard error (this profile's choice).
use Rattle.std.specs.Prelude.{ℕ, ◌==◌, if◌then◌else◌, List, [], codes}

-- of which exit status which line; of the others none
abbrev pub failure_line : ℕ → List ℕ
failure_line status =
    if status == 3 then codes "mmscell: out of memory\n"
    else if status == 4 then codes "mmscell: standard input can't be read\n"
    else if status == 5 then codes "mmscell: standard output can't be written\n"
    else []
