-- The two characters of each status code; a blank one is two blanks.
use Rattle.std.specs.Prelude.{ℕ, List, codes}
use Rattle.tm_types.specs.declared.status.Status.{Status}
use Rattle.tm_types.specs.declared.status.Status.TheVariants.{Blank, QC, QD, A2, A3, A6, A7, QH, GE, GB, GP, GA, GK, II, DJ, DA, AM}

abbrev pub status_text : Status → List ℕ
status_text Blank = codes "  "
status_text QC = codes "QC"
status_text QD = codes "QD"
status_text A2 = codes "A2"
status_text A3 = codes "A3"
status_text A6 = codes "A6"
status_text A7 = codes "A7"
status_text QH = codes "QH"
status_text GE = codes "GE"
status_text GB = codes "GB"
status_text GP = codes "GP"
status_text GA = codes "GA"
status_text GK = codes "GK"
status_text II = codes "II"
status_text DJ = codes "DJ"
status_text DA = codes "DA"
status_text AM = codes "AM"
