-- One member that is judged.
use Rattle.std.proofs.Common.{◌≡◌, ◌∙◌, ℕ, List, Bool, true, false, Option, Some, None, IfSome, Ok, Err, refl, sym, ap, cond, length, ◌≤◌}
use Rattle.std.specs.Prelude.{is_some, Result}
use Rattle.std.specs.Str.{IsUtf8, is_utf8}
use Rattle.std.proofs.lemmas.Str.{is_utf8-from_IsUtf8, IsUtf8-from_is_utf8}
use Rattle.serde_json.specs.Data.{Data, null, boolean, number, string, array, object, Members}
use Rattle.serde_json.specs.Read.{read}
use Rattle.serde_json.specs.Find.{as_object}
use Rattle.rx_types.specs.Domain.{Domain}
use Rattle.rx_graph.specs.Graph.{Graph, type_of}
use Rattle.rx_graph.specs.Fits.{Content, Assigned, content_of}
use Rattle.rx_values.specs.declared.fault.ValueFault.{ValueFault}
use Rattle.rx_values.specs.Names.{field_named}
use Rattle.rx_values.specs.Reading.{Refusal, NotJson, NotObject, UnknownField, BadValue, Duplicate, IsNoJson, content_from, with_content, with_field, with_member, members_in, json_of, values_of, value_of}
use Rattle.rx_values.specs.Answers.{refusal_of}

pub after : (o : Option Refusal) (r : Refusal) (x : Result (List Assigned) Refusal) → x ≡ Err r → IfSome o (λ s. s ≡ r) → IfSome o (λ s. x ≡ Err s)
after None r x e h = h
after (Some s) r x e h = e ∙ ap Err (sym h)

module _ (domains : List Domain) (m : Graph) (values : List Assigned) (key : List ℕ) (d : Data) where
  pub unknown : field_named m.fields key ≡ None → with_member domains m values key d ≡ Err (UnknownField key)
  unknown e = ap (with_field domains m values key d) e

  pub again : (f : ℕ) → field_named m.fields key ≡ Some f → is_some (content_of f values) ≡ true → with_member domains m values key d ≡ Err (Duplicate key)
  again f e h = ap (with_field domains m values key d) e ∙ ap (λ b. cond b (Err (Duplicate key)) (with_content values f key (content_from (type_of domains m f) d))) h

  pub judged : (f : ℕ) (o : Option Content) → field_named m.fields key ≡ Some f → is_some (content_of f values) ≡ false → o ≡ content_from (type_of domains m f) d
      → with_member domains m values key d ≡ with_content values f key o
  judged f o e h is = ap (with_field domains m values key d) e ∙ ap (λ b. cond b (Err (Duplicate key)) (with_content values f key (content_from (type_of domains m f) d))) h ∙ ap (with_content values f key) (sym is)

-- ---- the JSON value of a text

pub json_is : (text : List ℕ) (d : Data) → IsUtf8 text → read text ≡ Some d → json_of text ≡ Some d
json_is text d utf8 e = ap (λ (b : Bool). cond b (read text) None) (is_utf8-from_IsUtf8 text utf8) ∙ e

json_none : (text : List ℕ) → (IsUtf8 text → read text ≡ None) → json_of text ≡ None
json_none text h = go (is_utf8 text) refl
  where
    go : (b : Bool) → is_utf8 text ≡ b → cond b (read text) None ≡ None
    go true e = h (IsUtf8-from_is_utf8 text e)
    go false e = refl

pub no_json : (text : List ℕ) (o : Option Refusal) (M : Type 0) → IfSome o (λ r. r ≡ NotJson) → (M → o ≡ None) → ((M → ⊥) → IsUtf8 text → read text ≡ None) → IfSome o (λ r. IsNoJson text r)
no_json text None M told memory h = told
no_json text (Some r) M told memory h = (told, json_none text (h (λ x. let no : Some r ≡ None = memory x in absurd (clash r no))))
  where
    clash : (s : Refusal) → Some s ≡ None → ⊥
    clash s e = cc

pub object_in : (d : Data) (ms : Members) → Some ms ≡ as_object d → members_in d ≡ Ok ms
object_in null ms e = absurd (let no : Some ms ≡ None = e in cc)
object_in (boolean b) ms e = absurd (let no : Some ms ≡ None = e in cc)
object_in (number n) ms e = absurd (let no : Some ms ≡ None = e in cc)
object_in (string s) ms e = absurd (let no : Some ms ≡ None = e in cc)
object_in (array ds) ms e = absurd (let no : Some ms ≡ None = e in cc)
object_in (object xs) ms e = let same : xs ≡ ms = cc in ap Ok same

pub no_object : (d : Data) → None ≡ as_object d → members_in d ≡ Err NotObject
no_object null e = refl
no_object (boolean b) e = refl
no_object (number n) e = refl
no_object (string s) e = refl
no_object (array ds) e = refl
no_object (object xs) e = absurd (let no : None ≡ Some xs = e in cc)

pub told_no_json : (domains : List Domain) (m : Graph) (text : List ℕ) (o : Option Refusal) → IfSome o (λ r. IsNoJson text r) → IfSome o (λ r. value_of domains m text ≡ Err r)
told_no_json domains m text None h = h
told_no_json domains m text (Some r) h = ap (values_of domains m) h.1 ∙ ap Err (sym h.0)
