-- The summary of a workload.
use Rattle.std.specs.Prelude.{ℕ, List, [], ◌++◌, Option, Some, None, codes, decimal}
use Rattle.workload.specs.declared.counts.Counts.{Counts}

-- a word and a number on a line
unfoldable pub count_line : List ℕ → ℕ → List ℕ
count_line word number = word ++ codes " " ++ decimal number ++ codes "\n"

-- the last line: the text of the reply that was shown last. Where none was there is no such line.
unfoldable pub reply_summary_line : Option (List ℕ) → List ℕ
reply_summary_line None = []
reply_summary_line (Some text) = text ++ codes "\n"

-- the line of the seed and of how many transfers there were
unfoldable pub workload_line : ℕ → ℕ → List ℕ
workload_line seed transfers = codes "WORKLOAD " ++ decimal seed ++ codes " " ++ decimal transfers ++ codes "\n"

unfoldable pub count_lines : Counts → List ℕ
count_lines counts =
    count_line (codes "ACCEPTED") counts.accepted
    ++ count_line (codes "DONE") counts.completed
    ++ count_line (codes "ABENDED") counts.abended
    ++ count_line (codes "U0777") counts.victims

unfoldable pub summary_text : ℕ → ℕ → Counts → Option (List ℕ) → List ℕ
summary_text seed transfers counts last = workload_line seed transfers ++ count_lines counts ++ reply_summary_line last
