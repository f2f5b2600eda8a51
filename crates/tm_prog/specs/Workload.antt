-- A workload: its text is served as a session, and its summary is told in place of the transcript.
use Rattle.std.specs.Prelude.{◌≡◌, ◌⊎◌, ℕ, List, [], Option, Some, None}
use Rattle.std.specs.Io.KnownBytes.{append_known}
use Rattle.tm_disk.specs.Disk.{DiskState}
use Rattle.model_session.specs.SessionState.{Stop}
use Rattle.openings.specs.declared.life.Life.{Life}
use Rattle.tm_edge.specs.Fault.{HasRisen, AppendsFront}
use Rattle.tm_session.specs.declared.outcome.Ended.{Ended}
use Rattle.tm_session.specs.declared.outcome.Ended.TheVariants.{Done, Write, Memory}
use Rattle.tm_session.specs.Outcome.{HasCause, IsReadToEnd}
use Rattle.tm_session.specs.Headline.{IsSession}
use Rattle.workload.specs.Workload.{workload_text}
use Rattle.workload.specs.Counts.{counts_of, entries_of}
use Rattle.workload.specs.ShownReply.{last_reply}
use Rattle.workload.specs.Summary.{summary_text}
use Rattle.tm_prog.specs.declared.words.Workload.{Workload}

-- the text of its definition and of its session
abbrev pub workload_bytes_of : Workload → List ℕ
workload_bytes_of workload = workload_text workload.seed workload.transfers

-- the bytes that are served: those of the workload, where there is one, and else those that the source tells
abbrev pub bytes_served_by : Option Workload → Option (List ℕ) → Option (List ℕ)
bytes_served_by (Some workload) told = Some (workload_bytes_of workload)
bytes_served_by None told = told

-- The summary: the counts are those of the entries of the lives, and the last line is the text of the reply that is shown last in
-- the transcript.
abbrev pub summary_of : Workload → List Life → List ℕ → List ℕ
summary_of workload lives printed = summary_text workload.seed workload.transfers (counts_of (entries_of lives)) (last_reply printed)

-- ---- the session

-- The session of a text that is told whole, over a disk, with its transcript. It has its cause: reading the text never fails, and
-- writing the transcript only where there is no memory to keep it.
pub record IsDrilled {D : Type 0} (state : D → DiskState) (text : List ℕ) (handed disk : D) (ended : Ended) (lives : List Life) (stops : List Stop) (printed : List ℕ) : Type 0 where
  pub left : List ℕ
  pub writes : ℕ
  pub session : IsSession state (Some text) (Some left) (Some []) (Some printed) handed disk ended lives stops
  pub whole : IsReadToEnd ended (Some left)
  pub cause : HasCause ended 0 0 0 writes

-- ---- how the summary is told

-- The status of the run by how the session ended: a transcript that could not be kept is want of memory.
abbrev pub status_by : Ended → Ended
status_by Write = Memory
status_by ended = ended

-- The summary of a session that was run to its end is written; or a front of it, where the sink fails.
pub record IsSummaryWritten (text : List ℕ) (status : Ended) (old new : Option (List ℕ)) (summary : List ℕ) : Type 0 where
  pub written : ((status ≡ Done) × (new ≡ append_known old text)) ⊎ ((status ≡ Write) × AppendsFront old new text)
  pub none : summary ≡ []

-- That of any other session is kept, to be written with the line of the status.
pub record IsEndKept (ended : Ended) (text : List ℕ) (status : Ended) (old new : Option (List ℕ)) (summary : List ℕ) : Type 0 where
  pub status_is : status ≡ status_by ended
  pub nothing : new ≡ old
  pub kept : summary ≡ text

-- There is no summary: memory was wanting for it.
pub record IsSummaryUntold (status : Ended) (old new : Option (List ℕ)) (summary : List ℕ) : Type 0 where
  pub status_is : status ≡ Memory
  pub nothing : new ≡ old
  pub none : summary ≡ []

abbrev pub IsToldByWorkload : Ended → List ℕ → Ended → Option (List ℕ) → Option (List ℕ) → List ℕ → Type 0
IsToldByWorkload Done text status old new summary = IsSummaryWritten text status old new summary
IsToldByWorkload ended text status old new summary = IsEndKept ended text status old new summary

abbrev pub IsWorkloadTold : Ended → List ℕ → Ended → Option (List ℕ) → Option (List ℕ) → List ℕ → Type 0
IsWorkloadTold ended text status old new summary = IsToldByWorkload ended text status old new summary ⊎ IsSummaryUntold status old new summary

-- whether the sink failed, by the status
abbrev pub IsFaultedBy : Ended → ℕ → ℕ → Type 0
IsFaultedBy Write old new = HasRisen old new
IsFaultedBy _ old new = new ≡ old

-- ---- a workload

-- Its session ran between its text and a transcript that is kept, and its summary was told.
pub record IsWorkload {D : Type 0} (state : D → DiskState) (workload : Workload) (old new : Option (List ℕ)) (summary : List ℕ) (handed disk : D) (status : Ended) (lives : List Life) (stops : List Stop) : Type 0 where
  pub ended : Ended
  pub printed : List ℕ
  pub drilled : IsDrilled state (workload_bytes_of workload) handed disk ended lives stops printed
  pub told : IsWorkloadTold ended (summary_of workload lives printed) status old new summary
