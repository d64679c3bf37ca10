-- A command has one answer: that of its words, of the package where the walk ends, of packages that are refused, or of their messages.
use Rattle.std.proofs.Common.{◌≡◌, ℕ, inl, inr, true, false, List, [], ◌∷◌, Some, None, Result, Ok, Err, refl, sym, ap, ◌∙◌, subst}
use Rattle.std.specs.Prelude.{slice_get}
use Rattle.rx_io.specs.Shelf.{Texts}
use Rattle.rx_types.specs.Domain.{Domain}
use Rattle.rx_syntax.specs.declared.rule.Refusal.{Refusal}
use Rattle.rx_graph.specs.Graph.{Graph, Specified}
use Rattle.rx_forms.specs.Checkable.{TypedMessages}
use Rattle.rx_spec.specs.Elaboration.{Told}
use Rattle.rx_spec.specs.Laws.{domains_in}
use Rattle.rx_trees.specs.Laws.{OneTree}
use Rattle.rx_meaning.specs.Laws.{OneMeaning}
use Rattle.rx_closure.specs.Closure.{HasNone, IsClosure, begins, withs_of}
use Rattle.rx_program.specs.declared.answer.Answer.{Answer}
use Rattle.rx_program.specs.declared.answer.Answer.TheVariants.{Usage, ShelfFault, NoPackage, TextLimit, Refused, PackageLimit}
use Rattle.rx_program.specs.Words.{Ask, asked_for, HaveNoForm}
use Rattle.rx_program.specs.Refusals.{IsFirst, TellsRefusal, IsRefusedFor, Means}
use Rattle.rx_program.specs.Request.{AnswersTo}
use Rattle.rx_program.specs.Answers.{EndsAt, Request, Asks, Answers, by_words, by_walk, by_refusal, by_messages}
use Rattle.rx_program.specs.Laws.{is_fault, IsSame}
use Rattle.rx_program.proofs.OneText.{Met, nothing, too_long, refused, read}
use Rattle.rx_program.proofs.OneWalk.{Stopped, one_stop, stopped_not_closed}
use Rattle.rx_program.proofs.OneClosure.{HaveSame, closures_same}
use Rattle.rx_program.proofs.OneRequest.{one_done}

-- ---- words

ask_same : (a b : Ask) → Some a ≡ Some b → a ≡ b
ask_same a b h = cc

-- the words ask for one thing
pub asks_same : (words : List (List ℕ)) (a b : Ask) → asked_for words ≡ Some a → asked_for words ≡ Some b → a ≡ b
asks_same words a b is is' = ask_same a b (sym is ∙ is')

-- words of a form have one
formed : (words : List (List ℕ)) (ask : Ask) → asked_for words ≡ Some ask → HaveNoForm words → ⊥
formed words ask is none = (let no : Some ask ≡ None = sym is ∙ none in cc)

-- ---- walks

-- the answer where the walk ends at this package
abbrev answer_at : List ℕ → Met → Answer
answer_at name nothing = NoPackage name
answer_at name too_long = TextLimit name
answer_at name (refused refusal) = Refused name refusal
answer_at name (read withs place) = PackageLimit

-- the answer is that of an end of the walk
record IsOfEnd (texts : Texts) (name : List ℕ) (a : Answer) : Type 0 where
  stopped : Stopped texts name
  is : a ≡ answer_at stopped.name stopped.met

one_end : OneTree → (texts : Texts) (name : List ℕ) (a b : Answer) → IsOfEnd texts name a → IsOfEnd texts name b → a ≡ b
one_end one_tree texts name a b is is' =
    let same = one_stop one_tree texts name is.stopped is'.stopped in
    is.is ∙ ap (λ n. answer_at n is.stopped.met) same.names ∙ ap (answer_at is'.stopped.name) same.mets ∙ sym is'.is

-- the walk ends at its first package, which is absent
ends_absent : (texts : Texts) (name : List ℕ) → HasNone texts name → IsOfEnd texts name (NoPackage name)
ends_absent texts name none = record {
  stopped = record { at = 0; names = name ∷ []; walked = begins; name = name; there = refl; met = nothing; is = none; ends = refl };
  is = refl;
}

no_fault : true ≡ false → ⊥
no_fault h = cc

ends : (texts : Texts) (first : List ℕ) (a : Answer) → is_fault a ≡ false → EndsAt texts first a → IsOfEnd texts first a
ends texts first ShelfFault sound is = absurd (no_fault sound)
ends texts first (NoPackage name) sound is = subst (λ (n : List ℕ). IsOfEnd texts n (NoPackage name)) is.0 (ends_absent texts name is.1)
ends texts first (TextLimit file) sound is =
    let reached = is.0 in
    record { stopped = record { at = reached.at; names = reached.names; walked = reached.walked; name = file; there = reached.there; met = too_long; is = is.1; ends = tt }; is = refl }
ends texts first (Refused file refusal) sound is =
    let reached = is.0 in
    record { stopped = record { at = reached.at; names = reached.names; walked = reached.walked; name = file; there = reached.there; met = refused refusal; is = is.1; ends = tt }; is = refl }
ends texts first PackageLimit sound c = record {
  stopped = record {
    at = c.reached.at;
    names = c.reached.names;
    walked = c.reached.walked;
    name = c.name;
    there = c.reached.there;
    met = read (withs_of c.tree) c.tree.header.name.place;
    is = (c.tree, c.has, refl, refl);
    ends = c.more;
  };
  is = refl;
}
ends texts first other sound is = absurd is

-- ---- packages

abbrev told : Told → Result Specified Told
told t = Err t

abbrev okay : Specified → Result Specified Told
okay s = Ok s

told_same : (t u : Told) → told t ≡ told u → t ≡ u
told_same t u h = cc

okay_same : (s t : Specified) → okay s ≡ okay t → s ≡ t
okay_same s t h = cc

not_both : (s : Specified) (t : Told) → told t ≡ okay s → ⊥
not_both s t h = cc

some_same : {A : Type 0} (x y : A) → Some x ≡ Some y → x ≡ y
some_same x y h = cc

not_none : {A : Type 0} (x : A) → Some x ≡ None → ⊥
not_none x h = cc

same_refl : (a : Answer) → a ≡ Usage → IsSame a a
same_refl a is = subst (λ (x : Answer). IsSame x x) (sym is) refl

-- two requests of the same packages
module _ (r q : Request) (same : HaveSame r q) where
  first_same : (t u : Told) → IsFirst r.asked r.trees t → IsFirst q.asked q.trees u → t ≡ u
  first_same t u (inl one) (inl two) = some_same t u (sym one ∙ same.forms ∙ two)
  first_same t u (inl one) (inr two) = absurd (not_none t (sym one ∙ same.forms ∙ two.0))
  first_same t u (inr one) (inl two) = absurd (not_none u (sym two ∙ sym same.forms ∙ one.0))
  first_same t u (inr one) (inr two) = told_same t u (sym one.1 ∙ same.meaning ∙ two.1)

  refusals_same : (file other : List ℕ) (x y : Refusal) → TellsRefusal r.asked r.trees file x → TellsRefusal q.asked q.trees other y → Refused file x ≡ Refused other y
  refusals_same file other x y one two =
      let first = first_same one.told two.told one.first two.first in
      let there = ap (λ (t : Told). slice_get q.asked t.«package») (sym first) ∙ ap (λ (l : List (List ℕ)). slice_get l one.told.«package») (sym same.asked) in
      let files = some_same file other (sym one.file_is ∙ sym there ∙ two.file_is) in
      ap (λ f. Refused f x) files ∙ ap (Refused other) (one.refusal_is ∙ ap (λ (t : Told). t.refusal) first ∙ sym two.refusal_is)

  refused_same : (a b : Answer) → IsRefusedFor r.asked r.trees a → IsRefusedFor q.asked q.trees b → IsSame a b
  refused_same (Refused file x) (Refused other y) one two = refusals_same file other x y one two
  refused_same (Refused file x) b one two = absurd two
  refused_same a b one two = absurd one

  -- packages that mean something are not refused
  not_refused : (t : TypedMessages) (b : Answer) → Means r.asked r.trees t → IsRefusedFor q.asked q.trees b → ⊥
  not_refused t (Refused file y) means is = by_first is.first
    where
      by_first : IsFirst q.asked q.trees is.told → ⊥
      by_first (inl first) = not_none is.told (sym first ∙ sym same.forms ∙ means.served)
      by_first (inr first) = not_both means.spec is.told (sym first.1 ∙ sym same.meaning ∙ means.meaning)
  not_refused t other means is = absurd is

  pub meanings_same : (t u : TypedMessages) → Means r.asked r.trees t → Means q.asked q.trees u → t ≡ u
  meanings_same t u one two =
      let specs = okay_same one.spec two.spec (sym one.meaning ∙ same.meaning ∙ two.meaning) in
      let types : t.domains ≡ u.domains = one.types ∙ ap domains_in specs ∙ sym two.types in
      let graphs : t.graphs ≡ u.graphs = one.messages ∙ ap (λ (s : Specified). s.messages) specs ∙ sym two.messages in
      ap (λ (ds : List Domain). let x : TypedMessages = record { domains = ds; graphs = t.graphs } in x) types ∙ ap (λ (gs : List Graph). let x : TypedMessages = record { domains = u.domains; graphs = gs } in x) graphs

-- ---- answers

module _ (one_tree : OneTree) (one_meaning : OneMeaning) (words : List (List ℕ)) (texts : Texts) (input : List ℕ) where
  -- a walk that ends at a package has not come through all
  not_walked : (ask : Ask) (r : Request) (a : Answer) → asked_for words ≡ Some ask → is_fault a ≡ false → EndsAt texts ask.name a → Asks words texts r → ⊥
  not_walked ask r a is sound end asks =
      stopped_not_closed one_tree (ends texts ask.name a sound end).stopped (subst (λ (k : Ask). IsClosure texts k.name r.asked r.trees) (asks_same words r.ask ask asks.words_are is) asks.closure)

  -- two requests that the words make have the same packages
  packages_same : (r q : Request) → Asks words texts r → Asks words texts q → HaveSame r q
  packages_same r q one two =
      let same = asks_same words r.ask q.ask one.words_are two.words_are in
      closures_same one_tree one_meaning texts q.ask.name r q (subst (λ (k : Ask). IsClosure texts k.name r.asked r.trees) same one.closure) two.closure

  walks_same : (ask other : Ask) (a b : Answer) → asked_for words ≡ Some ask → asked_for words ≡ Some other → is_fault a ≡ false → is_fault b ≡ false → EndsAt texts ask.name a → EndsAt texts other.name b → a ≡ b
  walks_same ask other a b is is' sound sound' one two =
      let same = asks_same words ask other is is' in
      one_end one_tree texts other.name a b (ends texts other.name a sound (subst (λ (k : Ask). EndsAt texts k.name a) same one)) (ends texts other.name b sound' two)

  messages_same : (r q : Request) (t u : TypedMessages) (a b : Answer) → Asks words texts r → Asks words texts q → is_fault a ≡ false → is_fault b ≡ false → Means r.asked r.trees t → Means q.asked q.trees u
      → AnswersTo r.ask t input a → AnswersTo q.ask u input b → IsSame a b
  messages_same r q t u a b asks asks' sound sound' means means' one two =
      let same = asks_same words q.ask r.ask asks'.words_are asks.words_are in
      let all = meanings_same q r (packages_same q r asks' asks) u t means' means in
      let here = subst (λ (x : TypedMessages). AnswersTo r.ask x input b) all (subst (λ (k : Ask). AnswersTo k u input b) same two) in
      one_done t r.ask.name r.ask.splits r.ask.does input a b sound sound' one here

  -- answers of a walk that are the same
  walk_answers_same : (first : List ℕ) (a b : Answer) → is_fault a ≡ false → EndsAt texts first a → a ≡ b → IsSame a b
  walk_answers_same first ShelfFault b sound end e = absurd (no_fault sound)
  walk_answers_same first (NoPackage n) b sound end e = subst (IsSame (NoPackage n)) e refl
  walk_answers_same first (TextLimit n) b sound end e = subst (IsSame (TextLimit n)) e refl
  walk_answers_same first (Refused n x) b sound end e = subst (IsSame (Refused n x)) e refl
  walk_answers_same first PackageLimit b sound end e = subst (IsSame PackageLimit) e refl
  walk_answers_same first other b sound end e = absurd end

  pub one_answer : (a b : Answer) → is_fault a ≡ false → is_fault b ≡ false → Answers words texts input a → Answers words texts input b → IsSame a b
  one_answer a b sound sound' (by_words none is) (by_words none' is') = subst (IsSame a) (is ∙ sym is') (same_refl a is)
  one_answer a b sound sound' (by_words none is) (by_walk ask formed' end) = absurd (formed words ask formed' none)
  one_answer a b sound sound' (by_words none is) (by_refusal q asks refused') = absurd (formed words q.ask asks.words_are none)
  one_answer a b sound sound' (by_words none is) (by_messages q u asks means answers) = absurd (formed words q.ask asks.words_are none)
  one_answer a b sound sound' (by_walk ask formed' end) (by_words none is) = absurd (formed words ask formed' none)
  one_answer a b sound sound' (by_walk ask formed' end) (by_walk other formed'' end') = walk_answers_same ask.name a b sound end (walks_same ask other a b formed' formed'' sound sound' end end')
  one_answer a b sound sound' (by_walk ask formed' end) (by_refusal q asks refused') = absurd (not_walked ask q a formed' sound end asks)
  one_answer a b sound sound' (by_walk ask formed' end) (by_messages q u asks means answers) = absurd (not_walked ask q a formed' sound end asks)
  one_answer a b sound sound' (by_refusal r asks refused') (by_words none is) = absurd (formed words r.ask asks.words_are none)
  one_answer a b sound sound' (by_refusal r asks refused') (by_walk ask formed' end) = absurd (not_walked ask r b formed' sound' end asks)
  one_answer a b sound sound' (by_refusal r asks refused') (by_refusal q asks' refused'') = refused_same r q (packages_same r q asks asks') a b refused' refused''
  one_answer a b sound sound' (by_refusal r asks refused') (by_messages q u asks' means answers) = absurd (not_refused q r (packages_same q r asks' asks) u a means refused')
  one_answer a b sound sound' (by_messages r t asks means answers) (by_words none is) = absurd (formed words r.ask asks.words_are none)
  one_answer a b sound sound' (by_messages r t asks means answers) (by_walk ask formed' end) = absurd (not_walked ask r b formed' sound' end asks)
  one_answer a b sound sound' (by_messages r t asks means answers) (by_refusal q asks' refused') = absurd (not_refused r q (packages_same r q asks asks') t b means refused')
  one_answer a b sound sound' (by_messages r t asks means answers) (by_messages q u asks' means' answers') = messages_same r q t u a b asks asks' sound sound' means means' answers answers'
