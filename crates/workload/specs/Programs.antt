-- The programs of the workload's definition, each with its lines.
use Rattle.std.specs.Prelude.{ℕ, List, ◌++◌, codes}

unfoldable pub echo_program : List ℕ
echo_program = codes "PROGRAM ECHOP\nCALL GU 0 A\nCALL ISRT 0 A\nEND\nENDPROG\n"

unfoldable pub segs_program : List ℕ
segs_program = codes "PROGRAM SEGSP\nCALL GU 0 A\nLABEL L\nCALL ISRT 0 A\nCALL GN 0 A\nIF STATUS <> \"QD\" GOTO L\nEND\nENDPROG\n"

unfoldable pub loop_program : List ℕ
loop_program = codes "PROGRAM LOOPP\nCALL GU 0 A\nCALL ISRT 0 A\nCALL GU 0 A\nENDPROG\n"

unfoldable pub spin_program : List ℕ
spin_program = codes "PROGRAM SPINP\nLABEL L\nGOTO L\nENDPROG\n"

unfoldable pub conv_program : List ℕ
conv_program = codes "PROGRAM CONVP\nCALL GU 0 A\nCALL GN 0 B\nIF B = \"FAIL\" GOTO BAD\nSET A \"CONV    \" B\nCALL ISRT 0 A\nCALL ISRT 0 B\nEND\nLABEL BAD\nABEND 0100\nENDPROG\n"

unfoldable pub swit_program : List ℕ
swit_program = codes "PROGRAM SWITP\nCALL GU 0 A\nSET B \"NOWHERE\"\nCALL CHNG 1 B\nCUT C A 6 100\nCALL ISRT 1 C\nSET B \"BAL\"\nCALL CHNG 1 B\nCALL ISRT 1 C\nCALL CHNG 1 B\nCALL PURG 1\nEND\nENDPROG\n"

unfoldable pub open_program : List ℕ
open_program = codes "PROGRAM OPENP\nCALL GU 0 A\nWORD B A 2\nWORD C A 3\nPAD C 8\nSET E B C\nCALL ISRT 1 E ACCT\nSET G \"OPENED \" B\nCALL ISRT 0 G\nEND\nENDPROG\n"

-- the transfer: it takes the amount from the first account
unfoldable pub xfer_taking : List ℕ
xfer_taking = codes "PROGRAM XFERP\nCALL GU 0 A\nWORD B A 2\nWORD C A 3\nWORD D A 4\nPAD D 8\nCALL GHU 1 E ACCT=B\nIF STATUS = \"GE\" GOTO NONE\nCUT F E 5 8\nIF F < D GOTO POOR\nLESS F D\nPAD F 8\nSET E B F\nCALL REPL 1 E\n"

-- it gives it to the second account, and tells so
unfoldable pub xfer_giving : List ℕ
xfer_giving =
    codes "CALL GHU 1 E ACCT=C\nIF STATUS = \"GE\" GOTO NONE\nCUT F E 5 8\n"
    ++ codes "ADD F D\nPAD F 8\nSET E C F\nCALL REPL 1 E\nSET G \"MOVED \" D\nCALL ISRT 0 G\nEND\n"

-- it tells that an account is not there, or has too little
unfoldable pub xfer_refusing : List ℕ
xfer_refusing = codes "LABEL NONE\nCALL ROLB 0 A\nSET G \"NO ACCOUNT\"\nCALL ISRT 0 G\nEND\nLABEL POOR\nSET G \"NO FUNDS\"\nCALL ISRT 0 G\nENDPROG\n"

unfoldable pub xfer_program : List ℕ
xfer_program = xfer_taking ++ xfer_giving ++ xfer_refusing

unfoldable pub bal_program : List ℕ
bal_program = codes "PROGRAM BALP\nCALL GU 0 A\nWORD B A 2\nCALL GU 1 E ACCT=B\nCUT F E 5 8\nSET G B \" \" F\nCALL ISRT 0 G\nEND\nENDPROG\n"

unfoldable pub abnd_program : List ℕ
abnd_program = codes "PROGRAM ABNDP\nCALL GU 0 A\nWORD B A 2\nCALL GHU 1 E ACCT=B\nSET E B \"00000000\"\nCALL REPL 1 E\nCALL ISRT 0 E\nABEND 0123\nENDPROG\n"

unfoldable pub rb_program : List ℕ
rb_program =
    codes "PROGRAM RBP\nCALL GU 0 A\nWORD B A 2\nCALL GHU 1 E ACCT=B\nSET E B \"00000001\"\nCALL REPL 1 E\nCALL ISRT 0 E\n"
    ++ codes "CALL ROLB 0 C\nCALL GHU 1 E ACCT=B\nSET E B \"00000002\"\nCALL REPL 1 E\nCALL ISRT 0 C\nEND\nENDPROG\n"

unfoldable pub addm_program : List ℕ
addm_program = codes "PROGRAM ADDMP\nCALL GU 0 A\nWORD B A 2\nSET D \"0001 OPENING\"\nCALL ISRT 1 D ACCT=B MOVE\nEND\nENDPROG\n"

unfoldable pub scan_program : List ℕ
scan_program = codes "PROGRAM SCANP\nCALL GU 0 A\nCALL GN 1 E\nCALL GN 1 E\nCALL GN 1 E\nCALL GN 1 E\nCALL GN 1 E\nEND\nENDPROG\n"

unfoldable pub sum_program : List ℕ
sum_program =
    codes "PROGRAM SUMP\nCALL GU 0 A\nSET S \"0\"\nLABEL L\nCALL GN 1 E ACCT\nIF STATUS <> \"  \" GOTO D\n"
    ++ codes "CUT F E 5 8\nADD S F\nGOTO L\n"
    ++ codes "LABEL D\nPAD S 8\nSET G \"SUM \" S\nCALL ISRT 0 G\nEND\nENDPROG\n"

-- the programs that use no database
unfoldable pub plain_programs : List ℕ
plain_programs =
    echo_program ++ segs_program ++ loop_program ++ spin_program ++ conv_program ++ swit_program

-- the programs on the accounts
unfoldable pub account_programs : List ℕ
account_programs =
    open_program ++ xfer_program ++ bal_program ++ abnd_program ++ rb_program ++ addm_program
    ++ scan_program ++ sum_program
