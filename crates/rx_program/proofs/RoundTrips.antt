-- What one command encoded another decodes as the same values, and what one decoded another encodes as the same buffer.
use Rattle.std.proofs.Common.{◌≡◌, ℕ, Bool, true, false, List, sym, ap, ◌∙◌, subst, Option, Some, Ok, inl, inr, if◌then◌else◌}
use Rattle.std.specs.Prelude.{◌==◌}
use Rattle.rx_io.specs.Shelf.{Texts}
use Rattle.rx_types.specs.Domain.{Domain}
use Rattle.rx_graph.specs.Graph.{Graph}
use Rattle.rx_graph.specs.Fits.{Assigned}
use Rattle.rx_graph.specs.Elaborated.{IsSound}
use Rattle.rx_trees.specs.Laws.{OneTree}
use Rattle.rx_meaning.specs.Laws.{OneMeaning}
use Rattle.rx_values.specs.Laws.{AreNamed}
use Rattle.rx_values.specs.Reading.{value_of}
use Rattle.rx_values.specs.Printing.{json_text}
use Rattle.rx_values.proofs.Kept.{reads_back}
use Rattle.rx_serial.specs.Laws.{AreBytes}
use Rattle.rx_decode.specs.Decoded.{IsJson}
use Rattle.rx_decode.proofs.OneText.{one_valuation}
use Rattle.rx_encode.specs.Encoded.{IsEncoded}
use Rattle.rx_encode.specs.Laws.{IsBuffer}
use Rattle.rx_encode.specs.declared.encoding.Encoded.{Encoded}
use Rattle.rx_encode.specs.declared.encoding.Encoded.TheVariants as encoded
use Rattle.rx_encode.proofs.RoundTrip.{printed_is_encoded, encoded_reads}
use Rattle.rx_program.specs.Words.{Does, Ask, Decodes, Encodes}
use Rattle.rx_closure.specs.Closure.{IsClosure}
use Rattle.rx_forms.specs.Checkable.{TypedMessages}
use Rattle.rx_syntax.specs.declared.tree.PackageTree.{PackageTree}
use Rattle.rx_decode.specs.declared.decoding.Decoded.{Decoded}
use Rattle.rx_decode.specs.declared.decoding.Decoded.TheVariants as decoded
use Rattle.rx_lines.specs.Lines.{line}
use Rattle.rx_program.specs.Operand.{message_in}
use Rattle.rx_program.specs.Input.{IsReadAs, IsWrittenAs}
use Rattle.rx_program.specs.Refusals.{IsRefusedFor, Means}
use Rattle.rx_program.specs.Request.{Serves, IsDenied, IsAnswered, IsDone}
use Rattle.rx_program.specs.Answers.{EndsAt, Request, Asks, Answers, by_words, by_walk, by_refusal, by_messages}
use Rattle.rx_program.specs.Outcome.{FaultCounts, Outcome, IsText, status_of, status_of_encoded, encoded_text}
use Rattle.rx_program.specs.RoundTrips.{AskThat, AskBoth, IsJsonOfText, EncodedIsDecoded, DecodedIsEncoded}
use Rattle.rx_program.specs.declared.status.Status.TheVariants.{Done, NotAccepted, Words, Undecided, InputRefused, Limit}
use Rattle.rx_program.specs.declared.status.Status.TheVariants.{SourceFault as SourceStatus}
use Rattle.rx_program.specs.declared.answer.Answer.{Answer}
use Rattle.rx_program.specs.declared.answer.Answer.TheVariants.{ShelfFault, NoPackage, TextLimit, Refused, PackageLimit, NoMessage, Rejected, SourceFault, InputLimit}
use Rattle.rx_program.specs.declared.answer.Answer.TheVariants as answer
use Rattle.rx_program.proofs.OneClosure.{HaveSame, closures_same}
use Rattle.rx_program.proofs.OneAnswer.{meanings_same}
use Rattle.rx_program.proofs.OneRequest.{alone, none, refusal, buffer, long}
use Rattle.rx_program.proofs.LineEnd.{value_behind_line}

-- ---- one message

-- a text that is the same valuation is encoded as the same
encoded_same : (domains : List Domain) (m : Graph) (text other : List ℕ) (e : Encoded) → value_of domains m text ≡ value_of domains m other → IsEncoded domains m text e → IsEncoded domains m other e
encoded_same domains m text other (encoded.Bytes b) same is = (is.0, (is.1.0, sym same ∙ is.1.1, is.1.2))
encoded_same domains m text other encoded.NotJson same is = sym same ∙ is
encoded_same domains m text other encoded.NotObject same is = sym same ∙ is
encoded_same domains m text other (encoded.UnknownField key) same is = sym same ∙ is
encoded_same domains m text other (encoded.BadValue key) same is = sym same ∙ is
encoded_same domains m text other (encoded.Duplicate key) same is = sym same ∙ is
encoded_same domains m text other encoded.TooLong same is = (is.0, sym same ∙ is.1, is.2)
encoded_same domains m text other (encoded.Unsatisfied field reason) same is = (is.0, sym same ∙ is.1, is.2)
encoded_same domains m text other (encoded.Unused field) same is = (is.0, sym same ∙ is.1, is.2)

buffer_same : (e : Encoded) (one other : List ℕ) → IsBuffer e one → IsBuffer e other → one ≡ other
buffer_same (encoded.Bytes b) one other is is' = sym is ∙ is'
buffer_same encoded.NotJson one other is is' = absurd is
buffer_same encoded.NotObject one other is is' = absurd is
buffer_same (encoded.UnknownField key) one other is is' = absurd is
buffer_same (encoded.BadValue key) one other is is' = absurd is
buffer_same (encoded.Duplicate key) one other is is' = absurd is
buffer_same encoded.TooLong one other is is' = absurd is
buffer_same (encoded.Unsatisfied field reason) one other is is' = absurd is
buffer_same (encoded.Unused field) one other is is' = absurd is

-- the text is this valuation, whose JSON was printed of its buffer
record IsPrintedOf (domains : List Domain) (m : Graph) (text printed : List ℕ) : Type 0 where
  values : List Assigned
  valued : value_of domains m text ≡ Ok values
  printed_is : printed ≡ json_text domains m values

module _ (domains : List Domain) (m : Graph) (sound : IsSound domains m) (named : AreNamed domains m) where
  printed_of_encoded : (text bytes printed : List ℕ) (e : Encoded) → IsEncoded domains m text e → IsBuffer e bytes → IsJson domains m bytes printed → IsPrintedOf domains m text printed
  printed_of_encoded text bytes printed e is buffer_is j =
      let h = encoded_reads domains m text bytes e is buffer_is in
      let same : j.values ≡ h.0 = one_valuation domains m bytes (alone domains m sound) j.values h.0 j.ascending h.2 j.reads h.3 in
      record { values = h.0; valued = h.1; printed_is = j.text ∙ ap (json_text domains m) same }

  -- a line of JSON that was printed of a buffer is encoded as the buffer
  encoded_of_printed : (bytes printed written : List ℕ) (e : Encoded) → AreBytes bytes → IsJson domains m bytes printed → IsEncoded domains m (line printed) e → IsBuffer e written → written ≡ bytes
  encoded_of_printed bytes printed written e are j is buffer_is =
      let text = json_text domains m j.values in
      let whole : value_of domains m (line printed) ≡ value_of domains m text = ap (λ p. value_of domains m (line p)) j.text ∙ value_behind_line domains m j.values in
      let there : IsEncoded domains m text e = encoded_same domains m (line printed) text e whole is in
      let back = reads_back domains m sound.elaborated named in
      let encodes = printed_is_encoded domains m sound.elaborated back (none domains m sound) (refusal domains m sound) (buffer domains m sound) (long domains m sound) in
      buffer_same e written bytes buffer_is (encodes bytes j.values e are j.ascending j.reads there)

-- ---- what a command did that ended with Done

some_same : (a b : Ask) → Some a ≡ Some b → a ≡ b
some_same a b e = cc

rejected_done : (b : Bool) → Done ≡ (if b then Undecided else NotAccepted) → ⊥
rejected_done true e = cc
rejected_done false e = cc

-- the message of a name that a command serves, and its request
record Serving (words : List (List ℕ)) (texts : Texts) (does : Does) (name message : List ℕ) : Type 0 where
  request : Request
  asks : Asks words texts request
  name_is : request.ask.name ≡ name
  does_is : request.ask.does ≡ does
  messages : TypedMessages
  means : Means request.asked request.trees messages
  graph : Graph
  serves : Serves messages request.ask.name request.ask.splits message graph

module _ (texts : Texts) (first : List ℕ) where
  walk_done : (a : Answer) → EndsAt texts first a → Done ≡ status_of a → ⊥
  walk_done ShelfFault end status = cc
  walk_done (NoPackage name) end status = cc
  walk_done (TextLimit file) end status = cc
  walk_done (Refused file refusal) end status = cc
  walk_done PackageLimit end status = cc
  walk_done other end status = absurd end

refused_done : (asked : List (List ℕ)) (trees : List PackageTree) (a : Answer) → IsRefusedFor asked trees a → Done ≡ status_of a → ⊥
refused_done asked trees (Refused file refusal) is status = cc
refused_done asked trees other is status = absurd is

denied_done : (t : TypedMessages) (owner : List ℕ) (splits : ℕ) (name : List ℕ) (a : Answer) → IsDenied t owner splits name a → Done ≡ status_of a → ⊥
denied_done t owner splits name (NoMessage home message) is status = cc
denied_done t owner splits name (Rejected x) is status = rejected_done (x.failed == 0) status
denied_done t owner splits name other is status = absurd is

-- of a message, the input was encoded as what was written
record IsEncodedAs (domains : List Domain) (m : Graph) (input written : List ℕ) : Type 0 where
  encoded_as : Encoded
  is : IsEncoded domains m input encoded_as
  wrote : IsBuffer encoded_as written

-- of a message, the JSON of the input was written on a line
record IsDecodedAs (domains : List Domain) (m : Graph) (input written : List ℕ) : Type 0 where
  json : List ℕ
  is : IsJson domains m input json
  wrote : written ≡ line json

module _ (domains : List Domain) (m : Graph) (input written : List ℕ) where
  bytes_done : (e : Encoded) (name : Option (List ℕ)) → IsEncoded domains m input e → Done ≡ status_of_encoded e → written ≡ encoded_text e name → IsEncodedAs domains m input written
  bytes_done (encoded.Bytes b) name is status text = record { encoded_as = encoded.Bytes b; is = is; wrote = sym text }
  bytes_done encoded.TooLong name is status text = absurd (let no : Done ≡ Limit = status in cc)
  bytes_done other name is status text = absurd (let no : Done ≡ InputRefused = status in cc)

  written_done : (a : Answer) → IsWrittenAs domains m input a → Done ≡ status_of a → IsText a written → IsEncodedAs domains m input written
  written_done SourceFault is status text = absurd (let no : Done ≡ SourceStatus = status in cc)
  written_done InputLimit is status text = absurd (let no : Done ≡ Limit = status in cc)
  written_done (answer.Encoded e name) is status text = bytes_done e name is.is status text
  written_done other is status text = absurd is

  read_done : (a : Answer) → IsReadAs domains m input a → Done ≡ status_of a → IsText a written → IsDecodedAs domains m input written
  read_done SourceFault is status text = absurd (let no : Done ≡ SourceStatus = status in cc)
  read_done InputLimit is status text = absurd (let no : Done ≡ Limit = status in cc)
  read_done (answer.Decoded (decoded.Json json) name) is status text = record { json = json.items; is = is.is; wrote = text }
  read_done (answer.Decoded (decoded.Refused stuck) name) is status text = absurd (let no : Done ≡ InputRefused = status in cc)
  read_done other is status text = absurd is

module _ (words : List (List ℕ)) (texts : Texts) (name message : List ℕ) (does : Does) (asked : AskThat words name does) where
  ask_is : (r : Request) → Asks words texts r → r.ask ≡ record { name = name; does = does; splits = asked.0 }
  ask_is r asks = some_same r.ask (record { name = name; does = does; splits = asked.0 }) (sym asks.words_are ∙ asked.1)

  abbrev serving : (r : Request) (t : TypedMessages) (m : Graph) → Asks words texts r → Means r.asked r.trees t → Serves t r.ask.name r.ask.splits message m → Serving words texts does name message
  serving r t m asks means serves =
      let ask = ask_is r asks in
      record { request = r; asks = asks; name_is = ap (λ (a : Ask). a.name) ask; does_is = ap (λ (a : Ask). a.does) ask; messages = t; means = means; graph = m; serves = serves }

  module _ (input written : List ℕ) (Is : TypedMessages → Graph → Answer → Type 0) where
    -- its message was served, and this was answered of it
    record HasServed : Type 0 where
      by : Serving words texts does name message
      answered : Answer
      is : Is by.messages by.graph answered
      status : Done ≡ status_of answered
      text : IsText answered written

    -- a command of this kind that ended with Done has served its message
    has_served : ((t : TypedMessages) (owner : List ℕ) (splits : ℕ) (a : Answer) → IsDone t owner splits does input a → IsAnswered t owner splits message (Is t) a) → (f : FaultCounts) → Outcome words texts input f Done written → HasServed
    has_served answered f o = by_answer o.1
      where
        of_messages : (r : Request) (t : TypedMessages) → Asks words texts r → Means r.asked r.trees t → IsAnswered t r.ask.name r.ask.splits message (Is t) o.0 → HasServed
        of_messages r t asks means (inl denied) = absurd (denied_done t r.ask.name r.ask.splits message o.0 denied o.3.0)
        of_messages r t asks means (inr served) = record { by = serving r t served.0 asks means served.1; answered = o.0; is = served.2; status = o.3.0; text = o.3.1 }

        by_answer : Answers words texts input o.0 → HasServed
        by_answer (by_words no_form is) = absurd (let no : Done ≡ Words = o.3.0 ∙ ap status_of is in cc)
        by_answer (by_walk ask formed end) = absurd (walk_done texts ask.name o.0 end o.3.0)
        by_answer (by_refusal r asks refused) = absurd (refused_done r.asked r.trees o.0 refused o.3.0)
        by_answer (by_messages r t asks means answers) =
            let does_is = ap (λ (a : Ask). a.does) (ask_is r asks) in
            of_messages r t asks means (answered t r.ask.name r.ask.splits o.0 (subst (λ (d : Does). IsDone t r.ask.name r.ask.splits d input o.0) does_is answers))

module _ (words : List (List ℕ)) (texts : Texts) (name message input written : List ℕ) (f : FaultCounts) where
  -- a command that encodes has encoded
  record HasEncoded : Type 0 where
    by : Serving words texts (Encodes message) name message
    done : IsEncodedAs by.messages.domains by.graph input written

  has_encoded : AskThat words name (Encodes message) → Outcome words texts input f Done written → HasEncoded
  has_encoded asked o =
      let served = has_served words texts name message (Encodes message) asked input written (λ t m. IsWrittenAs t.domains m input) (λ t owner splits a is. is) f o in
      record { by = served.by; done = written_done served.by.messages.domains served.by.graph input written served.answered served.is served.status served.text }

  -- and one that decodes has decoded
  record HasDecoded : Type 0 where
    by : Serving words texts (Decodes message) name message
    done : IsDecodedAs by.messages.domains by.graph input written

  has_decoded : AskThat words name (Decodes message) → Outcome words texts input f Done written → HasDecoded
  has_decoded asked o =
      let served = has_served words texts name message (Decodes message) asked input written (λ t m. IsReadAs t.domains m input) (λ t owner splits a is. is) f o in
      record { by = served.by; done = read_done served.by.messages.domains served.by.graph input written served.answered served.is served.status served.text }

-- ---- two commands

module _ (one_tree : OneTree) (one_meaning : OneMeaning) (texts : Texts) where
  -- two commands that serve a message of one name serve the same message
  module _ (words others : List (List ℕ)) (does other : Does) (name message : List ℕ) (v : Serving words texts does name message) (w : Serving others texts other name message) where
    closure_of : (r : Request) (n : List ℕ) → r.ask.name ≡ n → IsClosure texts r.ask.name r.asked r.trees → IsClosure texts n r.asked r.trees
    closure_of r n is closed = subst (λ (l : List ℕ). IsClosure texts l r.asked r.trees) is closed

    packages : HaveSame v.request w.request
    packages = closures_same one_tree one_meaning texts name v.request w.request (closure_of v.request name v.name_is v.asks.closure) (closure_of w.request name w.name_is w.asks.closure)

    messages_same : v.messages ≡ w.messages
    messages_same = meanings_same v.request w.request packages v.messages w.messages v.means w.means

    found_same : (o p : Option Graph) (m n : Graph) → o ≡ p → o ≡ Some m → p ≡ Some n → m ≡ n
    found_same o p m n e one two = cc

    graph_same : v.graph ≡ w.graph
    graph_same =
        let names : v.request.ask.name ≡ w.request.ask.name = v.name_is ∙ sym w.name_is in
        let there = ap (λ (n : List ℕ). message_in n message v.messages.graphs) names ∙ ap (λ (t : TypedMessages). message_in w.request.ask.name message t.graphs) messages_same in
        found_same (message_in v.request.ask.name message v.messages.graphs) (message_in w.request.ask.name message w.messages.graphs) v.graph w.graph there v.serves.found w.serves.found

    json_same : (bytes text : List ℕ) → IsJson w.messages.domains w.graph bytes text → IsJson v.messages.domains v.graph bytes text
    json_same bytes text j =
        let there = subst (λ (t : TypedMessages). IsJson t.domains w.graph bytes text) (sym messages_same) j in
        subst (λ (g : Graph). IsJson v.messages.domains g bytes text) (sym graph_same) there

  module _ (encode decode : List (List ℕ)) (both : AskBoth encode decode) where
    encoded_and_decoded : (text bytes printed : List ℕ) (f g : FaultCounts) → Outcome encode texts text f Done bytes → Outcome decode texts bytes g Done printed → IsJsonOfText encode texts text printed
    encoded_and_decoded text bytes printed f g one two =
        let x : HasEncoded encode texts both.name both.message text bytes f = has_encoded encode texts both.name both.message text bytes f both.encodes one in
        let y : HasDecoded decode texts both.name both.message bytes printed g = has_decoded decode texts both.name both.message bytes printed g both.decodes two in
        let v = x.by in
        let j = json_same encode decode (Encodes both.message) (Decodes both.message) both.name both.message v y.by bytes y.done.json y.done.is in
        let p = printed_of_encoded v.messages.domains v.graph v.serves.sound v.serves.named text bytes y.done.json x.done.encoded_as x.done.is x.done.wrote j in
        record {
          request = v.request;
          asks = v.asks;
          messages = v.messages;
          means = v.means;
          name = both.message;
          asked_is = v.does_is;
          graph = v.graph;
          serves = v.serves;
          values = p.values;
          valued = p.valued;
          printed_is = y.done.wrote ∙ ap line p.printed_is;
        }

    decoded_and_encoded : (bytes printed written : List ℕ) (f g : FaultCounts) → AreBytes bytes → Outcome decode texts bytes f Done printed → Outcome encode texts printed g Done written → written ≡ bytes
    decoded_and_encoded bytes printed written f g are one two =
        let x : HasEncoded encode texts both.name both.message printed written g = has_encoded encode texts both.name both.message printed written g both.encodes two in
        let y : HasDecoded decode texts both.name both.message bytes printed f = has_decoded decode texts both.name both.message bytes printed f both.decodes one in
        let v = x.by in
        let j = json_same encode decode (Encodes both.message) (Decodes both.message) both.name both.message v y.by bytes y.done.json y.done.is in
        let of_line = subst (λ (t : List ℕ). IsEncoded v.messages.domains v.graph t x.done.encoded_as) y.done.wrote x.done.is in
        encoded_of_printed v.messages.domains v.graph v.serves.sound v.serves.named bytes y.done.json written x.done.encoded_as are j of_line x.done.wrote

pub encoded_is_decoded : OneTree → OneMeaning → EncodedIsDecoded
encoded_is_decoded one_tree one_meaning encode decode texts text bytes printed f g both = encoded_and_decoded one_tree one_meaning texts encode decode both text bytes printed f g

pub decoded_is_encoded : OneTree → OneMeaning → DecodedIsEncoded
decoded_is_encoded one_tree one_meaning encode decode texts bytes printed written f g both = decoded_and_encoded one_tree one_meaning texts encode decode both bytes printed written f g
