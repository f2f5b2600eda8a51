-- The definition that the workload runs on: accounts, the codes on them, and four regions.
use Rattle.std.specs.Prelude.{ℕ, List, ◌++◌, codes}
use Rattle.workload.specs.Programs.{plain_programs, account_programs}

-- what there is room for, and the database of accounts
unfoldable pub databases : List ℕ
databases = codes "IMSCTRL QBYTES=1048576,LOGS=256\nDBD NAME=ACC,ROOTS=100\nSEGM NAME=ACCT,PARENT=0,KEY=4,BYTES=12\nSEGM NAME=MOVE,PARENT=ACCT,KEY=4,BYTES=12\n"

-- the codes that use no database
unfoldable pub plain_codes : List ℕ
plain_codes = codes "APPLCTN PSB=ECHOP\nTRANSACT CODE=ECHO,PRTY=(5,9,3)\nAPPLCTN PSB=SEGSP\nTRANSACT CODE=SEGS,PRTY=(7,7,65535)\nAPPLCTN PSB=LOOPP\nTRANSACT CODE=LOOP,MSGTYPE=(MULTSEG,NONRESPONSE,2),PRTY=(9,9,65535),PROCLIM=(1,1000)\nAPPLCTN PSB=SPINP\nTRANSACT CODE=SPIN,PROCLIM=(1,10)\nAPPLCTN PSB=CONVP\nTRANSACT CODE=CONV,SPA=34\nAPPLCTN PSB=SWITP\nPCB TYPE=TP,MODIFY=YES\nTRANSACT CODE=SWIT\n"

-- the terminals
unfoldable pub terminals : List ℕ
terminals = codes "NAME LTERM=T1\nNAME LTERM=T2\nNAME LTERM=T8,FORMAT=F1\nNAME LTERM=T9\n"

-- four regions, each of the classes 1 and 2
unfoldable pub regions : List ℕ
regions = codes "REGION CLASS=(1,2)\nREGION CLASS=(1,2)\nREGION CLASS=(1,2)\nREGION CLASS=(1,2)\n"

-- the format of the terminal T8
unfoldable pub screen : List ℕ
screen = codes "FMT NAME=F1\nDFLD NAME=FROM,POS=(3,10),LTH=4\nDFLD NAME=TO,POS=(4,10),LTH=4\nDFLD NAME=AMT,POS=(5,10),LTH=4\nDFLD NAME=MSG,POS=(24,1),LTH=20\nMSG TYPE=INPUT\nSEG\nMFLD LIT='XFER '\nMFLD SRC=FROM,LTH=4\nMFLD LIT=' '\nMFLD SRC=TO,LTH=4\nMFLD LIT=' '\nMFLD SRC=AMT,LTH=4,JUST=R,FILL=0\nMSG TYPE=OUTPUT\nSEG\nMFLD SRC=MSG,LTH=14\nFMTEND\n"

-- a code on the accounts, with the calls that its PCB allows: its program has the code's name and a P
unfoldable pub psb_word : List ℕ
psb_word = codes "APPLCTN PSB="

unfoldable pub psb_head : List ℕ → List ℕ
psb_head code = psb_word ++ code

unfoldable pub psb_line : List ℕ → List ℕ
psb_line code = psb_head code ++ codes "P\n"

unfoldable pub pcb_line : List ℕ → List ℕ
pcb_line allowed = codes "PCB TYPE=DB,DBDNAME=ACC,PROCOPT=" ++ allowed ++ codes "\n"

unfoldable pub code_macro_word : List ℕ
code_macro_word = codes "TRANSACT CODE="

unfoldable pub code_head : List ℕ → List ℕ
code_head code = code_macro_word ++ code

unfoldable pub code_line : List ℕ → List ℕ
code_line code = code_head code ++ codes "\n"

unfoldable pub account_code : List ℕ → List ℕ → List ℕ
account_code code allowed = psb_line code ++ pcb_line allowed ++ code_line code

-- the codes on the accounts: all may make each call, but the last, which only reads
unfoldable pub account_codes : List ℕ
account_codes =
    account_code (codes "OPEN") (codes "A") ++ account_code (codes "XFER") (codes "A")
    ++ account_code (codes "BAL") (codes "A") ++ account_code (codes "ABND") (codes "A")
    ++ account_code (codes "RB") (codes "A") ++ account_code (codes "ADDM") (codes "A")
    ++ account_code (codes "SCAN") (codes "A") ++ account_code (codes "SUM") (codes "G")

-- the whole definition
unfoldable pub workload_definition : List ℕ
workload_definition =
    databases ++ plain_codes ++ terminals ++ regions ++ screen ++ account_codes
    ++ plain_programs ++ account_programs ++ codes "END\n"
