-- How an answer shows: the status, and the bytes that are written.
use Rattle.std.specs.Prelude.{◌≡◌, ◌==◌, ℕ, List, [], ◌++◌, Option, take, codes, if◌then◌else◌}
use Rattle.rx_io.specs.Faults.{HasRisen}
use Rattle.rx_io.specs.Shelf.{Texts}
use Rattle.rx_program.specs.declared.status.Status.{Status}
use Rattle.rx_program.specs.declared.status.Status.TheVariants.{Done, NotAccepted, Words, Specification, Undecided, InputRefused, SinkFault, Limit, NoMemory}
use Rattle.rx_program.specs.declared.status.Status.TheVariants.{SourceFault as SourceStatus, ShelfFault as ShelfStatus}
use Rattle.rx_types.specs.declared.stuck.Reason.{Reason}
use Rattle.rx_types.specs.declared.stuck.Reason.TheVariants as reason
use Rattle.rx_serial.specs.declared.fault.UnfitReason.{UnfitReason}
use Rattle.rx_serial.specs.declared.fault.UnfitReason.TheVariants as unfit
use Rattle.rx_report.specs.declared.reported.Reported.{Reported}
use Rattle.serde_json.specs.Data.{string}
use Rattle.serde_json.specs.Written.{compact_text}
use Rattle.rx_decode.specs.declared.decoding.Decoded.{Decoded}
use Rattle.rx_decode.specs.declared.decoding.Decoded.TheVariants as decoded
use Rattle.rx_encode.specs.declared.encoding.Encoded.{Encoded}
use Rattle.rx_encode.specs.declared.encoding.Encoded.TheVariants as encoded
use Rattle.rx_program.specs.declared.answer.Answer.{Answer}
use Rattle.rx_program.specs.declared.answer.Answer.TheVariants.{Usage, ShelfFault, NoPackage, TextLimit, Refused, PackageLimit, NoMessage, Checked, Rejected, SourceFault, InputLimit}
use Rattle.rx_program.specs.declared.answer.Answer.TheVariants as answer
use Rattle.rx_lines.specs.Lines.{line, file_of, name_text, refused_text}
use Rattle.rx_program.specs.Answers.{Answers}

-- NotAccepted where a check failed, else Undecided where one is undecided
abbrev pub status_of_report : Reported → Status
status_of_report r = if r.failed == 0 then (if r.undecided == 0 then Done else Undecided) else NotAccepted

-- the same where some check did not pass
abbrev pub status_of_rejected : Reported → Status
status_of_rejected r = if r.failed == 0 then Undecided else NotAccepted

abbrev pub status_of_decoded : Decoded → Status
status_of_decoded (decoded.Json text) = Done
status_of_decoded (decoded.Refused stuck) = InputRefused

abbrev pub status_of_encoded : Encoded → Status
status_of_encoded (encoded.Bytes bytes) = Done
status_of_encoded encoded.TooLong = Limit
status_of_encoded refused = InputRefused

-- the status of an answer that was written whole
abbrev pub status_of : Answer → Status
status_of Usage = Words
status_of ShelfFault = ShelfStatus
status_of (NoPackage name) = Specification
status_of (TextLimit file) = Limit
status_of (Refused file refusal) = Specification
status_of PackageLimit = Limit
status_of (NoMessage name message) = Specification
status_of (Checked reported) = status_of_report reported
status_of (Rejected reported) = status_of_rejected reported
status_of SourceFault = SourceStatus
status_of InputLimit = Limit
status_of (answer.Decoded d name) = status_of_decoded d
status_of (answer.Encoded e name) = status_of_encoded e

-- the name of a reason
abbrev pub reason_name : Reason → List ℕ
reason_name reason.Condition = codes "Condition"
reason_name reason.Trailing = codes "Trailing"
reason_name reason.Short = codes "Short"
reason_name reason.Value = codes "Value"

-- the JSON on a line; or `refused: REASON FIELD`
abbrev pub decoded_text : Decoded → Option (List ℕ) → List ℕ
decoded_text (decoded.Json text) name = line text.items
decoded_text (decoded.Refused stuck) name = line (codes "refused: " ++ reason_name stuck.reason ++ name_text name)

abbrev pub unfit_name : UnfitReason → List ℕ
unfit_name unfit.Condition = codes "Condition"
unfit_name unfit.Missing = codes "Missing"
unfit_name unfit.Value = codes "Value"
unfit_name unfit.Size = codes "Size"
unfit_name unfit.Short = codes "Short"
unfit_name unfit.Overlay = codes "Overlay"

-- `refused: NUMBER NAME KEY`, the key as JSON
abbrev pub key_line : List ℕ → List ℕ → List ℕ
key_line rule key = line (codes "refused: " ++ rule ++ codes " " ++ compact_text (string key))

-- the bytes of a message alone, or why there are none
abbrev pub encoded_text : Encoded → Option (List ℕ) → List ℕ
encoded_text (encoded.Bytes bytes) name = bytes.items
encoded_text encoded.NotJson name = line (codes "refused: 30 NotJson")
encoded_text encoded.NotObject name = line (codes "refused: 31 NotObject")
encoded_text (encoded.UnknownField key) name = key_line (codes "32 UnknownField") key.items
encoded_text (encoded.BadValue key) name = key_line (codes "33 BadValue") key.items
encoded_text (encoded.Duplicate key) name = key_line (codes "34 Duplicate") key.items
encoded_text encoded.TooLong name = line (codes "limit: input")
encoded_text (encoded.Unsatisfied field reason) name = line (codes "refused: 41 Unsatisfied" ++ name_text name ++ codes " " ++ unfit_name reason)
encoded_text (encoded.Unused field) name = line (codes "refused: 42 Unused" ++ name_text name)

-- the text is that of the answer
abbrev pub IsText : Answer → List ℕ → Type 0
IsText Usage text = text ≡ line (codes "usage: rflx check P, decode P::M [--deep Q], encode P::M, run P::S, load N, all with [--splits K]")
IsText ShelfFault text = text ≡ line (codes "fault: shelf")
IsText (NoPackage name) text = text ≡ line (file_of name ++ codes ": 8 UnknownName " ++ name)
IsText (TextLimit name) text = text ≡ line (codes "limit: text " ++ file_of name)
IsText (Refused name refusal) text = text ≡ refused_text name refusal
IsText PackageLimit text = text ≡ line (codes "limit: packages")
IsText (NoMessage name message) text = text ≡ line (file_of name ++ codes ": 8 UnknownName " ++ message)
IsText (Checked reported) text = text ≡ reported.text.items
IsText (Rejected reported) text = text ≡ reported.text.items
IsText SourceFault text = text ≡ line (codes "fault: source")
IsText InputLimit text = text ≡ line (codes "limit: input")
IsText (answer.Decoded d name) text = text ≡ decoded_text d name
IsText (answer.Encoded e name) text = text ≡ encoded_text e name

-- the status is that of the answer, or what may take the place of any other
abbrev pub IsShown : Answer → Status → Type 0
IsShown answer SinkFault = Unit {0}
IsShown answer NoMemory = Unit {0}
IsShown answer status = status ≡ status_of answer

-- a front of the text of an answer was written
abbrev pub IsPartOf : Answer → List ℕ → Type 0
IsPartOf answer written = (text : List ℕ) × (n : ℕ) × IsText answer text × (written ≡ take n text)

-- what was written of an answer with this status
abbrev pub Prints : Answer → Status → List ℕ → Type 0
Prints answer SinkFault written = IsPartOf answer written
Prints answer NoMemory written = written ≡ []
Prints answer status written = (status ≡ status_of answer) × IsText answer written

-- how many faults shelf and source had counted before a command, and have behind it
pub record FaultCounts : Type 0 where
  pub shelf_before : ℕ
  pub shelf_after : ℕ
  pub source_before : ℕ
  pub source_after : ℕ

-- a fault of the shelf or of the source is the answer only where that object counted one
abbrev pub IsCaused : FaultCounts → Answer → Type 0
IsCaused faults ShelfFault = HasRisen faults.shelf_before faults.shelf_after
IsCaused faults SourceFault = HasRisen faults.source_before faults.source_after
IsCaused faults answer = Unit {0}

-- a command with these words, texts and input, and these faults, may end with this status and have written this
abbrev pub Outcome : List (List ℕ) → Texts → List ℕ → FaultCounts → Status → List ℕ → Type 0
Outcome words texts input faults NoMemory written = written ≡ []
Outcome words texts input faults status written = (answer : Answer) × Answers words texts input answer × IsCaused faults answer × Prints answer status written

-- what may end a command whose words have no form: status Words, or what may take the place of any other
abbrev pub MayRefuseWords : Status → Type 0
MayRefuseWords Words = Unit {0}
MayRefuseWords SinkFault = Unit {0}
MayRefuseWords NoMemory = Unit {0}
MayRefuseWords status = ⊥

-- the input was read to its end, where the command has one and came to its answer
abbrev pub ReadsAll : Status → Type 0 → Type 0
ReadsAll Done at_end = at_end
ReadsAll InputRefused at_end = at_end
ReadsAll status at_end = Unit {0}

-- the input is as it was, where the status says that the command ended before it was needed
abbrev pub LeavesInput : Status → Type 0 → Type 0
LeavesInput Words same = same
LeavesInput Specification same = same
LeavesInput NotAccepted same = same
LeavesInput Undecided same = same
LeavesInput ShelfStatus same = same
LeavesInput status same = Unit {0}
