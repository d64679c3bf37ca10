-- The lines of a report.
--   evidence_text, verdict_text    what became of a check, and what shows it
--   line_text, lines_text          a check with its verdict, and all of a message
use Rattle.std.specs.Prelude.{ℕ, List, [], ◌∷◌, ◌++◌, length, codes, decimal}
use Rattle.std.specs.List.{flat_map}
use Rattle.rx_types.specs.Domain.{Domain}
use Rattle.rx_graph.specs.Graph.{Graph}
use Rattle.rx_values.specs.Printing.{json_text}
use Rattle.rx_checks.specs.Steps.{total_steps}
use Rattle.rx_checks.specs.declared.verdict.Evidence.{Evidence}
use Rattle.rx_checks.specs.declared.verdict.Evidence.TheVariants.{Proofs, Found}
use Rattle.rx_checks.specs.declared.verdict.Verdict.{Verdict}
use Rattle.rx_checks.specs.declared.verdict.Verdict.TheVariants.{Passed, Failed, Undecided}
use Rattle.rx_checks.specs.declared.report.Line.{Line}
use Rattle.rx_lines.specs.Subjects.{check_name, subject_text, path_text, values_along}

module _ (domains : List Domain) (m : Graph) where
  -- ` by N proofs of S steps`, or ` on PATH length L JSON`
  abbrev pub evidence_text : Evidence → List ℕ
  evidence_text (Proofs proofs) = codes " by " ++ decimal (length proofs.items) ++ codes " proofs of " ++ decimal (total_steps proofs.items) ++ codes " steps"
  evidence_text (Found path total numbers) = codes " on " ++ path_text m path ++ codes " length " ++ decimal total ++ codes " " ++ json_text domains m (values_along domains m path numbers.items)

module _ (domains : List Domain) (m : Graph) (splits : ℕ) where
  -- a word, and what shows it or the number of splits
  abbrev pub verdict_text : Verdict → List ℕ
  verdict_text (Passed evidence) = codes "Passed" ++ evidence_text domains m evidence
  verdict_text (Failed evidence) = codes "Failed" ++ evidence_text domains m evidence
  verdict_text (Undecided path tree) = codes "Undecided after " ++ decimal splits ++ codes " splits"

  -- `P::M CHECK SUBJECT: VERDICT`
  abbrev pub line_text : Line → List ℕ
  line_text line = m.«package» ++ codes "::" ++ m.name ++ codes " " ++ check_name line.goal ++ codes " " ++ subject_text m line.goal ++ codes ": " ++ verdict_text line.verdict ++ 10 ∷ []

  abbrev pub lines_text : List Line → List ℕ
  lines_text lines = flat_map line_text lines
