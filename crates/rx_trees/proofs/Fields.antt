-- Fields and messages have one reading.
use Rattle.std.proofs.Common.{◌≡◌, Bool, List, [], ◌∷◌, ◌++◌, Option, refl, sym}
use Rattle.rx_syntax.specs.declared.token.Token.{Token}
use Rattle.rx_syntax.specs.declared.mark.Mark.TheVariants as sign
use Rattle.rx_syntax.specs.declared.tree.Named.{Named}
use Rattle.rx_syntax.specs.declared.tree.NameTree.{NameTree}
use Rattle.rx_syntax.specs.declared.tree.ExprTree.{ExprTree}
use Rattle.rx_syntax.specs.declared.tree.AspectTree.{AspectTree}
use Rattle.rx_syntax.specs.declared.tree.ThenTree.{ThenTree}
use Rattle.rx_syntax.specs.declared.tree.FieldTree.{FieldTree}
use Rattle.rx_syntax.specs.declared.tree.MessageTree.{MessageTree}
use Rattle.rx_grammar.specs.declared.terminal.Terminal.{Terminal}
use Rattle.rx_grammar.specs.declared.terminal.Terminal.TheVariants as terminal
use Rattle.rx_grammar.specs.declared.terminal.Keyword.TheVariants as word
use Rattle.rx_grammar.specs.Tokens.{IsNamed}
use Rattle.rx_grammar.specs.Sentence as sentence
use Rattle.rx_grammar.specs.Sentence.{AtLeastOne, AfterWord, Behind, IsName, IsCondition, AreAspects, AreThens, MaybeThens, IsField, IsStart, IsByteOrder, IsMessage}
use Rattle.rx_trees.specs.Alike.{AreSame, IsSameIfAny, IsSameExpr, IsSameAspect, IsSameThen, IsSameField, IsSameMessage}
use Rattle.rx_trees.proofs.Heads.{Stops, Starts, Any, any, tail_same, starts_on, token_starts, apart_differ, start_or_stop}
use Rattle.rx_trees.proofs.Sole.{Sole, Opens, Both, both, Closed, closed, AreBothSame, within, stops_outside, quiet_outside, opens_lead, any_lead, behind_opens, both_opens, both_front_opens, closed_opens, word_fronts, both_sole, behind_sole, closed_sole, word_sole}
use Rattle.rx_trees.proofs.Rest.{Added, added, Turns, steps_sole, some_steps}
use Rattle.rx_trees.proofs.Names.{Equal, named_opens, named_sole, name_sole}
use Rattle.rx_trees.proofs.Links.{condition_sole, condition_fronts, aspects_sole, thens_sole, maybe_thens_sole, maybe_thens_fronts}

abbrev semicolon : Terminal
semicolon = terminal.Mark sign.Semicolon

-- the parts of a field, from the last to the first
abbrev Links : List Token → List ThenTree → Type 0
Links = Closed MaybeThens semicolon

abbrev Conditioned : List Token → Option ExprTree × List ThenTree → Type 0
Conditioned = Both IsCondition Links

abbrev Aspected : List Token → List AspectTree × (Option ExprTree × List ThenTree) → Type 0
Aspected = Both AreAspects Conditioned

abbrev Kinded : List Token → NameTree × (List AspectTree × (Option ExprTree × List ThenTree)) → Type 0
Kinded = Both IsName Aspected

abbrev FieldParts : List Token → Named × (NameTree × (List AspectTree × (Option ExprTree × List ThenTree))) → Type 0
FieldParts = Both IsNamed (Behind (terminal.Mark sign.Colon) Kinded)

-- each of them ends with the semicolon, so anything may follow
links_open : Opens Links (terminal.Keyword word.Then ∷ semicolon ∷ [])
links_open = closed_opens maybe_thens_fronts

links_sole : Sole Links (AreSame IsSameThen) Any
links_sole = closed_sole maybe_thens_sole (stops_outside refl)

conditioned_opens : Opens Conditioned (terminal.Keyword word.If ∷ terminal.Keyword word.Then ∷ semicolon ∷ [])
conditioned_opens = both_front_opens condition_fronts links_open

conditioned_sole : Sole Conditioned (AreBothSame (IsSameIfAny IsSameExpr) (AreSame IsSameThen)) Any
conditioned_sole = both_sole condition_sole links_sole (opens_lead links_open (stops_outside refl))

aspected_opens : Opens Aspected (terminal.Keyword word.With ∷ terminal.Keyword word.If ∷ terminal.Keyword word.Then ∷ semicolon ∷ [])
aspected_opens = both_front_opens word_fronts conditioned_opens

aspected_sole : Sole Aspected (AreBothSame (AreSame IsSameAspect) (AreBothSame (IsSameIfAny IsSameExpr) (AreSame IsSameThen))) Any
aspected_sole = both_sole aspects_sole conditioned_sole (opens_lead conditioned_opens (quiet_outside refl))

kinded_sole : Sole Kinded (AreBothSame Equal (AreBothSame (AreSame IsSameAspect) (AreBothSame (IsSameIfAny IsSameExpr) (AreSame IsSameThen)))) Any
kinded_sole = both_sole name_sole aspected_sole (opens_lead aspected_opens (stops_outside refl))

parts_sole : Sole FieldParts (AreBothSame Equal (AreBothSame Equal (AreBothSame (AreSame IsSameAspect) (AreBothSame (IsSameIfAny IsSameExpr) (AreSame IsSameThen))))) Any
parts_sole = both_sole named_sole (behind_sole kinded_sole) any_lead

field_parts : {xs : List Token} {f : FieldTree} → IsField xs f → FieldParts xs (f.name, (f.kind, (f.aspects.items, (f.condition, f.thens.items))))
field_parts (sentence.field n c k a o t s) = both n (sentence.behind c (both k (both a (both o (closed t s)))))

-- a field has one reading, whatever follows
field_sole : Sole IsField IsSameField Any
field_sole = record { one = λ rs ss p q e j k. go rs ss p q e }
  where
    go : {xs ys : List Token} {f g : FieldTree} (rs ss : List Token) → IsField xs f → IsField ys g → xs ++ rs ≡ ys ++ ss → (rs ≡ ss) × IsSameField f g
    go rs ss p q e =
        let a = parts_sole.one rs ss (field_parts p) (field_parts q) e any any in
        let b = a.1 in
        (a.0, record { name = b.first; kind = b.second.first; aspects = b.second.second.first; condition = b.second.second.second.first; thens = b.second.second.second.second })

field_starts : {xs : List Token} {f : FieldTree} → IsField xs f → Starts (terminal.Name ∷ []) xs
field_starts (sentence.field {colon = c} {end = q} {ys = ys} {zs = zs} {us = us} {vs = vs} n a k h t v s) = starts_on (c ∷ (ys ++ (zs ++ (us ++ (vs ++ q ∷ []))))) (named_opens.opens n)

-- fields go on with a name
field_turns : Turns (Added IsField) Any (Stops (terminal.Name ∷ []))
field_turns = record { leads = λ rs x. any; ends = λ rs x k. ends rs x k; stops = λ k. any }
  where
    ends : {xs : List Token} {l m : List FieldTree} (rs : List Token) → Added IsField xs l m → Stops (terminal.Name ∷ []) (xs ++ rs) → ⊥
    ends rs (added p) k = start_or_stop (starts_on rs (field_starts p)) k refl

-- fields, where no name follows
fields_sole : Sole (AtLeastOne IsField) (AreSame IsSameField) (Stops (terminal.Name ∷ []))
fields_sole = within (λ xs l h. some_steps h) (steps_sole field_sole field_turns)

fields_open : Opens (AtLeastOne IsField) (terminal.Name ∷ [])
fields_open = record { opens = λ p. go p }
  where
    go : {xs : List Token} {l : List FieldTree} → AtLeastOne IsField xs l → Starts (terminal.Name ∷ []) xs
    go (sentence.one p) = field_starts p
    go (sentence.and_one {ys = ys} r p) = starts_on ys (go r)

-- what a message begins with, before its fields
start_word : (xs : List Token) (l : List ThenTree) → IsStart xs l → AfterWord (terminal.Keyword word.Null) (Closed AreThens semicolon) xs l
start_word _ _ sentence.none = sentence.absent
start_word _ _ (sentence.some h t s) = sentence.present h (closed t s)

start_sole : Sole IsStart (AreSame IsSameThen) (Stops (terminal.Keyword word.Null ∷ []))
start_sole = within start_word (word_sole (closed_sole thens_sole (stops_outside refl)) (λ ts k. any) (λ ts k. k))

-- the order of bytes, where no `with` follows
order_sole : Sole IsByteOrder Equal (Stops (terminal.Keyword word.With ∷ []))
order_sole = record { one = λ rs ss p q e j k. go rs ss p q e j k }
  where
    go : {xs ys : List Token} {a b : Bool} (rs ss : List Token) → IsByteOrder xs a → IsByteOrder ys b → xs ++ rs ≡ ys ++ ss → Stops (terminal.Keyword word.With ∷ []) rs → Stops (terminal.Keyword word.With ∷ []) ss → (rs ≡ ss) × (a ≡ b)
    go rs ss sentence.none sentence.none e j k = (e, refl)
    go rs ss (sentence.high h b r t) (sentence.high g c s u) e j k = (tail_same (tail_same (tail_same (tail_same e))), refl)
    go rs ss (sentence.low h b r t) (sentence.low g c s u) e j k = (tail_same (tail_same (tail_same (tail_same e))), refl)
    go rs ss (sentence.high h b r t) (sentence.low g c s u) e j k = absurd (apart_differ refl (token_starts t) (token_starts u) (tail_same (tail_same (tail_same e))))
    go rs ss (sentence.low h b r t) (sentence.high g c s u) e j k = absurd (apart_differ refl (token_starts t) (token_starts u) (tail_same (tail_same (tail_same e))))
    go rs ss sentence.none (sentence.high g c s u) e j k = absurd (start_or_stop (token_starts g) j (sym e))
    go rs ss sentence.none (sentence.low g c s u) e j k = absurd (start_or_stop (token_starts g) j (sym e))
    go rs ss (sentence.high h b r t) sentence.none e j k = absurd (start_or_stop (token_starts h) k e)
    go rs ss (sentence.low h b r t) sentence.none e j k = absurd (start_or_stop (token_starts h) k e)

-- the parts of a message, from the last to the first
abbrev Ending : List Token → Bool → Type 0
Ending = Behind (terminal.Keyword word.End) (Behind (terminal.Keyword word.Message) IsByteOrder)

abbrev Fielded : List Token → List FieldTree × Bool → Type 0
Fielded = Both (AtLeastOne IsField) Ending

abbrev MessageParts : List Token → List ThenTree × (List FieldTree × Bool) → Type 0
MessageParts = Behind (terminal.Keyword word.Message) (Both IsStart Fielded)

fielded_sole : Sole Fielded (AreBothSame (AreSame IsSameField) Equal) (Stops (terminal.Keyword word.With ∷ []))
fielded_sole = both_sole fields_sole (behind_sole (behind_sole order_sole)) (opens_lead behind_opens (stops_outside refl))

fielded_opens : Opens Fielded (terminal.Name ∷ [])
fielded_opens = both_opens fields_open

message_parts_sole : Sole MessageParts (AreBothSame (AreSame IsSameThen) (AreBothSame (AreSame IsSameField) Equal)) (Stops (terminal.Keyword word.With ∷ []))
message_parts_sole = behind_sole (both_sole start_sole fielded_sole (opens_lead fielded_opens (stops_outside refl)))

message_parts : {xs : List Token} {a : MessageTree} → IsMessage xs a → MessageParts xs (a.start.items, (a.fields.items, a.low_order))
message_parts (sentence.message h s f e m o) = sentence.behind h (both s (both f (sentence.behind e (sentence.behind m o))))

-- a message has one reading, where no `with` follows
pub message_sole : Sole IsMessage IsSameMessage (Stops (terminal.Keyword word.With ∷ []))
message_sole = record { one = λ rs ss p q e j k. go rs ss p q e j k }
  where
    go : {xs ys : List Token} {a b : MessageTree} (rs ss : List Token) → IsMessage xs a → IsMessage ys b → xs ++ rs ≡ ys ++ ss → Stops (terminal.Keyword word.With ∷ []) rs → Stops (terminal.Keyword word.With ∷ []) ss → (rs ≡ ss) × IsSameMessage a b
    go rs ss p q e j k =
        let a = message_parts_sole.one rs ss (message_parts p) (message_parts q) e j k in
        (a.0, record { start = a.1.first; fields = a.1.second.first; low_order = a.1.second.second })

pub message_starts : {xs : List Token} {a : MessageTree} → IsMessage xs a → Starts (terminal.Keyword word.Message ∷ []) xs
message_starts (sentence.message h s f e m o) = token_starts h
