-- What the definitions of answers say together: a command has one answer.
use Rattle.std.specs.Prelude.{◌≡◌, ℕ, List, Bool, true, false}
use Rattle.rx_io.specs.Shelf.{Texts}
use Rattle.rx_program.specs.declared.answer.Answer.{Answer}
use Rattle.rx_program.specs.declared.answer.Answer.TheVariants.{ShelfFault, Checked, Rejected, SourceFault, Decoded, Encoded}
use Rattle.rx_decode.specs.Decoded.{IsSame as IsSameDecoded}
use Rattle.rx_encode.specs.Encoded.{IsSame as IsSameEncoded}
use Rattle.rx_program.specs.Answers.{Answers}
use Rattle.rx_report.specs.declared.reported.Reported.{Reported}

-- a fault of the shelf or the source, which may take the place of another answer
abbrev pub is_fault : Answer → Bool
is_fault ShelfFault = true
is_fault SourceFault = true
is_fault _ = false

-- the same counts: the steps of proofs, lengths and numbers may be others
pub record IsSameReport (one other : Reported) : Type 0 where
  pub passed : one.passed ≡ other.passed
  pub failed : one.failed ≡ other.failed
  pub undecided : one.undecided ≡ other.undecided

-- the same answer; of texts the same bytes, of reports the same counts
abbrev pub IsSame : Answer → Answer → Type 0
IsSame (Decoded one name) (Decoded other name') = IsSameDecoded one other × (name ≡ name')
IsSame (Encoded one name) (Encoded other name') = IsSameEncoded one other × (name ≡ name')
IsSame (Checked one) (Checked other) = IsSameReport one other
IsSame (Rejected one) (Rejected other) = IsSameReport one other
IsSame one other = one ≡ other

-- but for faults, one answer belongs to words, texts and an input
abbrev pub OneAnswer : Type 0
OneAnswer = (words : List (List ℕ)) (texts : Texts) (input : List ℕ) (one other : Answer) → is_fault one ≡ false → is_fault other ≡ false
    → Answers words texts input one → Answers words texts input other → IsSame one other
