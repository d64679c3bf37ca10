-- The text of an object of numbers and texts reads as that object.
use Rattle.std.proofs.Common.{◌≡◌, ◌∙◌, ℕ, suc, ◌^◌, ◌<◌, ◌≤◌, List, [], ◌∷◌, ◌++◌, Bool, true, false, Option, Some, None, refl, sym, ap, ap₂, arith, append-nil, Ordering, Less, Equal, Greater, nat_cmp, max, decimal, lit≤}
use Rattle.std.specs.Prelude.{option_map, option_and_then}
use Rattle.std.specs.Ordering.{match_ordering, ordering_reverse}
use Rattle.std.specs.Cmp.Lexicographic.{slice_cmp}
use Rattle.std.specs.Str.{IsUtf8}
use Rattle.std.proofs.lemmas.Str.{IsUtf8-append, IsUtf8-from_ascii}
use Rattle.std.proofs.lemmas.Fmt.{IsAscii-decimal}
use Rattle.std.proofs.lemmas.Cmp.{nat_list_cmp_total}
use Rattle.json.specs.Token.{Token}
use Rattle.json.specs.Lex.{tokens}
use Rattle.json.specs.Print.{ArePrintable, quoted}
use Rattle.json.specs.Json as json
use Rattle.json.specs.Tree.{json_tokens, members_tokens}
use Rattle.json.specs.Tree as tree
use Rattle.json.proofs.Printed.Tokens.{tokens-print}
use Rattle.json.proofs.Printed.Decimals.{IsNumber-decimal}
use Rattle.json.proofs.Printed.Utf8.{IsUtf8-are_ascii, IsUtf8-quoted}
use Rattle.serde_json.specs.Data.{Data, null, boolean, number, string, array, object, Num, unsigned, negative, float, Members, no_members, member, put, depth, members_depth}
use Rattle.serde_json.specs.Read.{read, of_json, of_members}
use Rattle.serde_json.specs.Written.{outline, members_outline, compact_text, members_text, comma_if}
use Rattle.serde_json.proofs.Numbers.{number_of-decimal}
use Rattle.serde_json.proofs.Texts.{print-outline}
use Rattle.json.proofs.Printed.Trees.{value-json_tokens}

-- ---- numbers and texts

abbrev pub IsLeaf : Data → Type 0
IsLeaf (number (unsigned n)) = n < 2 ^ 64
IsLeaf (number (negative z)) = ⊥
IsLeaf (number (float x)) = ⊥
IsLeaf (string s) = IsUtf8 s
IsLeaf null = ⊥
IsLeaf (boolean b) = ⊥
IsLeaf (array ds) = ⊥
IsLeaf (object ms) = ⊥

leaf_reads : (d : Data) → IsLeaf d → of_json (outline d) ≡ Some d
leaf_reads (number (unsigned n)) h = ap (option_map number) (number_of-decimal n h)
leaf_reads (number (negative z)) h = absurd h
leaf_reads (number (float x)) h = absurd h
leaf_reads (string s) h = refl
leaf_reads null h = absurd h
leaf_reads (boolean b) h = absurd h
leaf_reads (array ds) h = absurd h
leaf_reads (object ms) h = absurd h

leaf_flat : (d : Data) → IsLeaf d → (tree.depth (outline d) ≡ 0) × (depth d ≡ 0)
leaf_flat (number (unsigned n)) h = (refl, refl)
leaf_flat (number (negative z)) h = absurd h
leaf_flat (number (float x)) h = absurd h
leaf_flat (string s) h = (refl, refl)
leaf_flat null h = absurd h
leaf_flat (boolean b) h = absurd h
leaf_flat (array ds) h = absurd h
leaf_flat (object ms) h = absurd h

leaf_printable : (d : Data) (ts : List Token) → IsLeaf d → ArePrintable ts → ArePrintable (json_tokens (outline d) ++ ts)
unfolding ArePrintable
leaf_printable (number (unsigned n)) ts h more = (IsNumber-decimal n h, more)
leaf_printable (number (negative z)) ts h more = absurd h
leaf_printable (number (float x)) ts h more = absurd h
leaf_printable (string s) ts h more = (tt, more)
leaf_printable null ts h more = absurd h
leaf_printable (boolean b) ts h more = absurd h
leaf_printable (array ds) ts h more = absurd h
leaf_printable (object ms) ts h more = absurd h

leaf_utf8 : (d : Data) → IsLeaf d → IsUtf8 (compact_text d)
leaf_utf8 (number (unsigned n)) h = IsUtf8-from_ascii (decimal n) (IsAscii-decimal n h)
leaf_utf8 (number (negative z)) h = absurd h
leaf_utf8 (number (float x)) h = absurd h
leaf_utf8 (string s) h = IsUtf8-quoted s h
leaf_utf8 null h = absurd h
leaf_utf8 (boolean b) h = absurd h
leaf_utf8 (array ds) h = absurd h
leaf_utf8 (object ms) h = absurd h

-- ---- members in ascending order

abbrev pub AreLeaves : Members → Type 0
AreLeaves no_members = Unit {0}
AreLeaves (member k d ms) = IsUtf8 k × IsLeaf d × AreLeaves ms

-- the key comes before all these
abbrev pub IsLeast : List ℕ → Members → Type 0
IsLeast k no_members = Unit {0}
IsLeast k (member l e ms) = (slice_cmp nat_cmp k l ≡ Less) × IsLeast k ms

abbrev pub AreOrdered : Members → Type 0
AreOrdered no_members = Unit {0}
AreOrdered (member k d ms) = IsLeast k ms × AreOrdered ms

abbrev joined : Members → Members → Members
joined no_members more = more
joined (member k d ms) more = member k d (joined ms more)

joined_nil : (ms : Members) → joined ms no_members ≡ ms
joined_nil no_members = refl
joined_nil (member k d ms) = ap (member k d) (joined_nil ms)

joined_joined : (a b c : Members) → joined (joined a b) c ≡ joined a (joined b c)
joined_joined no_members b c = refl
joined_joined (member k d a) b c = ap (member k d) (joined_joined a b c)

-- the key comes behind all these
abbrev IsGreatest : List ℕ → Members → Type 0
IsGreatest k no_members = Unit {0}
IsGreatest k (member l e ms) = (slice_cmp nat_cmp k l ≡ Greater) × IsGreatest k ms

put_last : (k : List ℕ) (d : Data) (ms : Members) → IsGreatest k ms → put k d ms ≡ joined ms (member k d no_members)
put_last k d no_members h = refl
put_last k d (member l e ms) h =
    ap (λ (o : Ordering). match_ordering o (member k d (member l e ms)) (member l d ms) (member l e (put k d ms))) h.0 ∙ ap (member l e) (put_last k d ms h.1)

-- each of the second come behind all of the first
abbrev AreBehind : Members → Members → Type 0
AreBehind found no_members = Unit {0}
AreBehind found (member k d ms) = IsGreatest k found × AreBehind found ms

greater : (a b : List ℕ) → slice_cmp nat_cmp a b ≡ Less → slice_cmp nat_cmp b a ≡ Greater
greater a b h = nat_list_cmp_total.antisymm b a ∙ ap ordering_reverse h

greatest_more : (k : List ℕ) (found : Members) (l : List ℕ) (e : Data) → IsGreatest k found → slice_cmp nat_cmp l k ≡ Less → IsGreatest k (joined found (member l e no_members))
greatest_more k no_members l e h less = (greater l k less, tt)
greatest_more k (member a x found) l e h less = (h.0, greatest_more k found l e h.1 less)

behind_more : (found ms : Members) (k : List ℕ) (d : Data) → AreBehind found ms → IsLeast k ms → AreBehind (joined found (member k d no_members)) ms
behind_more found no_members k d h least = tt
behind_more found (member l e ms) k d h least = (greatest_more l found k d h.0 least.0, behind_more found ms k d h.1 least.1)

collected : (ms found : Members) → AreLeaves ms → AreOrdered ms → AreBehind found ms → of_members (members_outline ms) found ≡ Some (joined found ms)
collected no_members found leaves order behind = ap (λ x. Some x) (sym (joined_nil found))
collected (member k d ms) found leaves order behind =
    ap (option_and_then (λ (x : Data). of_members (members_outline ms) (put k x found))) (leaf_reads d leaves.1)
    ∙ ap (of_members (members_outline ms)) (put_last k d found behind.0)
    ∙ collected ms (joined found (member k d no_members)) leaves.2 order.1 (behind_more found ms k d behind.1 order.0)
    ∙ ap (λ x. Some x) (joined_joined found (member k d no_members) ms)

none_before : (ms : Members) → AreBehind no_members ms
none_before no_members = tt
none_before (member k d ms) = (tt, none_before ms)

flat : (ms : Members) → AreLeaves ms → (tree.members_depth (members_outline ms) ≡ 0) × (members_depth ms ≡ 0)
flat no_members leaves = (refl, refl)
flat (member k d ms) leaves =
    let here = leaf_flat d leaves.1 in
    let rest = flat ms leaves.2 in
    (ap₂ max here.0 rest.0, ap₂ max here.1 rest.1)

printable : (ms : Members) → AreLeaves ms → ArePrintable (members_tokens (members_outline ms))
unfolding ArePrintable
printable no_members leaves = (tt, tt)
printable (member k d ms) leaves = (tt, leaf_printable d (members_tokens (members_outline ms)) leaves.1 (printable ms leaves.2))

printable_object : (ms : Members) → AreLeaves ms → ArePrintable (json_tokens (outline (object ms)))
unfolding ArePrintable
printable_object ms leaves = (tt, printable ms leaves)

abbrev whole : Option (json.Json × List Token) → Option Data
whole o = option_and_then of_json (option_and_then (λ (p : json.Json × List Token). json.if_last p.0 p.1) o)

shallow : (ms : Members) → AreLeaves ms → tree.depth (outline (object ms)) ≤ 127
shallow ms leaves = let none = (flat ms leaves).0 in omega arith

pub object_reads : (ms : Members) → AreLeaves ms → AreOrdered ms → read (compact_text (object ms)) ≡ Some (object ms)
object_reads ms leaves order =
    let d = object ms in
    let ts = json_tokens (outline d) in
    let same : tokens (compact_text d) ≡ ts = ap tokens (sym (print-outline d)) ∙ tokens-print ts (printable_object ms leaves) in
    ap whole (ap (json.value 127) (same ∙ sym (append-nil ts)) ∙ value-json_tokens (outline d) 127 [] (shallow ms leaves))
    ∙ ap (option_map object) (collected ms no_members leaves order (none_before ms))

-- ---- the text is UTF-8

comma_utf8 : (later : Bool) → IsUtf8 (comma_if later)
comma_utf8 true = IsUtf8-are_ascii (44 ∷ []) refl
comma_utf8 false = IsUtf8-are_ascii [] refl

members_utf8 : (later : Bool) (ms : Members) → AreLeaves ms → IsUtf8 (members_text later ms)
members_utf8 later no_members leaves = IsUtf8-are_ascii (125 ∷ []) refl
members_utf8 later (member k d ms) leaves =
    let rest = IsUtf8-append (compact_text d) (members_text true ms) (leaf_utf8 d leaves.1) (members_utf8 true ms leaves.2) in
    let behind = IsUtf8-append (58 ∷ []) (compact_text d ++ members_text true ms) (IsUtf8-are_ascii (58 ∷ []) refl) rest in
    IsUtf8-append (comma_if later) (quoted k ++ 58 ∷ (compact_text d ++ members_text true ms)) (comma_utf8 later)
    (IsUtf8-append (quoted k) (58 ∷ (compact_text d ++ members_text true ms)) (IsUtf8-quoted k leaves.0) behind)

pub object_utf8 : (ms : Members) → AreLeaves ms → IsUtf8 (compact_text (object ms))
object_utf8 ms leaves = IsUtf8-append (123 ∷ []) (members_text false ms) (IsUtf8-are_ascii (123 ∷ []) refl) (members_utf8 false ms leaves)
