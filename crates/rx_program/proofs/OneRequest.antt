-- Messages and an input have one answer to what is asked for.
use Rattle.std.proofs.Common.{◌≡◌, ℕ, ◌<◌, ◌≤◌, inl, inr, true, false, List, [], ◌∷◌, length, refl, sym, ap, ◌∙◌, subst, arith, Option, Some, None}
use Rattle.rx_types.specs.Domain.{Domain}
use Rattle.rx_types.specs.declared.stuck.Stuck as stuck
use Rattle.rx_graph.specs.Graph.{Graph}
use Rattle.rx_graph.specs.Elaborated.{IsSound}
use Rattle.rx_graph.specs.Laws.{FitsHaveLength}
use Rattle.rx_graph.specs.Paths.{Exclusive}
use Rattle.rx_graph.proofs.Exclusions.{exclusive_from_checks}
use Rattle.rx_graph.proofs.Lengths.{length_fits}
use Rattle.rx_forms.specs.Checkable.{TypedMessages}
use Rattle.rx_serial.specs.Laws.{NoneFits, HasOneRefusal, HasOneBuffer}
use Rattle.rx_serial.proofs.OneRefusal.{none_fits, one_refusal}
use Rattle.rx_serial.proofs.OneBuffer.{one_buffer}
use Rattle.rx_decode.specs.Decoded.{IsSame as IsSameDecoded}
use Rattle.rx_decode.specs.declared.decoding.Decoded.{Decoded}
use Rattle.rx_decode.specs.declared.decoding.Decoded.TheVariants as decoded
use Rattle.rx_decode.proofs.OneText.{one_answer as one_decoded}
use Rattle.rx_encode.specs.Encoded.{IsSame as IsSameEncoded}
use Rattle.rx_encode.specs.declared.encoding.Encoded.{Encoded}
use Rattle.rx_encode.specs.declared.encoding.Encoded.TheVariants as encoded
use Rattle.rx_encode.proofs.OneAnswer.{one_answer as one_encoded}
use Rattle.rx_report.specs.Reported.{messages_of, IsReported}
use Rattle.rx_report.specs.declared.reported.Reported.{Reported}
use Rattle.rx_program.specs.Words.{Does, Checks, Decodes, Encodes}
use Rattle.rx_program.specs.Operand.{message_in}
use Rattle.rx_program.specs.Input.{input_limit, name_if_any, stop_of, refused_at, IsReadAs, IsWrittenAs}
use Rattle.rx_program.specs.Request.{IsAll, Serves, IsDenied, IsAnswered, IsDone}
use Rattle.rx_program.specs.Laws.{is_fault, IsSame}
use Rattle.rx_program.proofs.OneReported.{reported_same, passes_not_open}
use Rattle.rx_program.specs.declared.answer.Answer.{Answer}
use Rattle.rx_program.specs.declared.answer.Answer.TheVariants as answer

no_fault : true ≡ false → ⊥
no_fault h = cc

-- ---- inputs

stops_same : (d e : Decoded) → IsSameDecoded d e → stop_of d ≡ stop_of e
stops_same (decoded.Json text) (decoded.Json other) same = refl
stops_same (decoded.Refused one) (decoded.Refused other) same = ap (λ (s : stuck.Stuck). s.field) same
stops_same d e same = absurd same

refused_same : (d e : Encoded) → IsSameEncoded d e → refused_at d ≡ refused_at e
refused_same (encoded.Bytes one) (encoded.Bytes other) same = refl
refused_same (encoded.UnknownField one) (encoded.UnknownField other) same = refl
refused_same (encoded.BadValue one) (encoded.BadValue other) same = refl
refused_same (encoded.Duplicate one) (encoded.Duplicate other) same = refl
refused_same d e same = ap refused_at same

module _ (domains : List Domain) (m : Graph) (sound : IsSound domains m) where
  pub alone : Exclusive domains m
  alone = exclusive_from_checks domains m sound.holds

  pub none : NoneFits domains m
  none values why u fit = none_fits domains m alone values why u fit

  pub refusal : HasOneRefusal domains m
  refusal values why other u v = one_refusal domains m alone values why other u v

  pub buffer : HasOneBuffer domains m
  buffer values b other ascending x y r s = one_buffer domains m sound alone values b other ascending x y r s

  pub long : FitsHaveLength domains m
  long values total path fields ascending f = length_fits domains m sound values ascending total path fields f

  module _ (input : List ℕ) where
    read_same : (a b : Answer) → is_fault a ≡ false → is_fault b ≡ false → IsReadAs domains m input a → IsReadAs domains m input b → IsSame a b
    read_same answer.SourceFault b sound_a sound_b x y = absurd (no_fault sound_a)
    read_same a answer.SourceFault sound_a sound_b x y = absurd (no_fault sound_b)
    read_same answer.InputLimit answer.InputLimit sound_a sound_b x y = refl
    read_same answer.InputLimit (answer.Decoded e k) sound_a sound_b x y = (let more : input_limit < length input = x in let short : length input ≤ input_limit = y.short in absurd (omega arith))
    read_same (answer.Decoded d n) answer.InputLimit sound_a sound_b x y = (let more : input_limit < length input = y in let short : length input ≤ input_limit = x.short in absurd (omega arith))
    read_same (answer.Decoded d n) (answer.Decoded e k) sound_a sound_b x y =
        let same = one_decoded domains m alone input d e x.is y.is in
        (same, x.name_is ∙ ap (name_if_any m) (stops_same d e same) ∙ sym y.name_is)
    read_same answer.InputLimit b sound_a sound_b x y = absurd y
    read_same (answer.Decoded d n) b sound_a sound_b x y = absurd y
    read_same a b sound_a sound_b x y = absurd x

    written_same : (a b : Answer) → is_fault a ≡ false → is_fault b ≡ false → IsWrittenAs domains m input a → IsWrittenAs domains m input b → IsSame a b
    written_same answer.SourceFault b sound_a sound_b x y = absurd (no_fault sound_a)
    written_same a answer.SourceFault sound_a sound_b x y = absurd (no_fault sound_b)
    written_same answer.InputLimit answer.InputLimit sound_a sound_b x y = refl
    written_same answer.InputLimit (answer.Encoded e k) sound_a sound_b x y = (let more : input_limit < length input = x in let short : length input ≤ input_limit = y.short in absurd (omega arith))
    written_same (answer.Encoded d n) answer.InputLimit sound_a sound_b x y = (let more : input_limit < length input = y in let short : length input ≤ input_limit = x.short in absurd (omega arith))
    written_same (answer.Encoded d n) (answer.Encoded e k) sound_a sound_b x y =
        let same = one_encoded domains m none refusal buffer long input d e x.is y.is in
        (same, x.name_is ∙ ap (name_if_any m) (refused_same d e same) ∙ sym y.name_is)
    written_same answer.InputLimit b sound_a sound_b x y = absurd y
    written_same (answer.Encoded d n) b sound_a sound_b x y = absurd y
    written_same a b sound_a sound_b x y = absurd x

-- ---- messages

some_same : {A : Type 0} (o : Option A) (x y : A) → o ≡ Some x → o ≡ Some y → x ≡ y
some_same o x y one two = cc

some_none : {A : Type 0} (o : Option A) (x : A) → o ≡ Some x → o ≡ None → ⊥
some_none o x one two = cc

module _ (t : TypedMessages) (owner : List ℕ) (splits : ℕ) where
  all_same : (a b : Answer) → IsAll t owner splits a → IsAll t owner splits b → IsSame a b
  all_same (answer.Checked x) (answer.Checked y) one two = reported_same t.domains splits (messages_of owner t.graphs) x y one two
  all_same (answer.Checked x) b one two = absurd two
  all_same a b one two = absurd one

  module _ (name : List ℕ) where
    rejected_same : (m n : Graph) (x y : Reported) → m ≡ n → IsReported t.domains splits (m ∷ []) x → IsReported t.domains splits (n ∷ []) y → IsSame (answer.Rejected x) (answer.Rejected y)
    rejected_same m n x y same one two = reported_same t.domains splits (m ∷ []) x y one (subst (λ (g : Graph). IsReported t.domains splits (g ∷ []) y) (sym same) two)

    denied_same : (a b : Answer) → IsDenied t owner splits name a → IsDenied t owner splits name b → IsSame a b
    denied_same (answer.NoMessage p n) (answer.NoMessage q k) one two = ap (λ x. answer.NoMessage x n) (one.0 ∙ sym two.0) ∙ ap (answer.NoMessage q) (one.1 ∙ sym two.1)
    denied_same (answer.NoMessage p n) (answer.Rejected y) one two = absurd (some_none (message_in owner name t.graphs) two.graph two.found one.2)
    denied_same (answer.Rejected x) (answer.NoMessage q k) one two = absurd (some_none (message_in owner name t.graphs) one.graph one.found two.2)
    denied_same (answer.Rejected x) (answer.Rejected y) one two =
        rejected_same one.graph two.graph x y (some_same (message_in owner name t.graphs) one.graph two.graph one.found two.found) one.reported_is two.reported_is
    denied_same (answer.NoMessage p n) b one two = absurd two
    denied_same (answer.Rejected x) b one two = absurd two
    denied_same a b one two = absurd one

    -- a message that is served is not denied
    not_denied : (m : Graph) (a : Answer) → Serves t owner splits name m → IsDenied t owner splits name a → ⊥
    not_denied m (answer.NoMessage p n) serves is = some_none (message_in owner name t.graphs) m serves.found is.2
    not_denied m (answer.Rejected x) serves is =
        let same = some_same (message_in owner name t.graphs) is.graph m is.found serves.found in
        passes_not_open t.domains splits m x serves.passes (subst (λ (g : Graph). IsReported t.domains splits (g ∷ []) x) same is.reported_is) is.not_passed
    not_denied m other serves is = absurd is

    pub graphs_same : (m n : Graph) → Serves t owner splits name m → Serves t owner splits name n → m ≡ n
    graphs_same m n one two = some_same (message_in owner name t.graphs) m n one.found two.found

    answered_same : (Is : Graph → Answer → Type 0) (a b : Answer) → ((m : Graph) → IsSound t.domains m → Is m a → Is m b → IsSame a b) → IsAnswered t owner splits name Is a → IsAnswered t owner splits name Is b → IsSame a b
    answered_same Is a b same (inl one) (inl two) = denied_same a b one two
    answered_same Is a b same (inl one) (inr two) = absurd (not_denied two.0 a two.1 one)
    answered_same Is a b same (inr one) (inl two) = absurd (not_denied one.0 b one.1 two)
    answered_same Is a b same (inr one) (inr two) =
        let graph = graphs_same one.0 two.0 one.1 two.1 in
        same one.0 one.1.sound one.2 (subst (λ (g : Graph). Is g b) (sym graph) two.2)

  -- a command has one answer, but for faults
  pub one_done : (d : Does) (input : List ℕ) (a b : Answer) → is_fault a ≡ false → is_fault b ≡ false → IsDone t owner splits d input a → IsDone t owner splits d input b → IsSame a b
  one_done Checks input a b sound_a sound_b one two = all_same a b one two
  one_done (Decodes name) input a b sound_a sound_b one two =
      answered_same name (λ m. IsReadAs t.domains m input) a b (λ m sound x y. read_same t.domains m sound input a b sound_a sound_b x y) one two
  one_done (Encodes name) input a b sound_a sound_b one two =
      answered_same name (λ m. IsWrittenAs t.domains m input) a b (λ m sound x y. written_same t.domains m sound input a b sound_a sound_b x y) one two
