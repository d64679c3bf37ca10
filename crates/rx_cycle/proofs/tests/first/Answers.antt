use Rattle.std.proofs.Common.{◌≡◌, ◌∙◌, ◌<◌, ◌++◌, ◌∷◌, [], ◌%◌, length, List, ℕ, arith, sym, ap, rules, subst, ⊎_elim, Some, get_or}
use Rattle.std.specs.Prelude.{slice_get}
use Rattle.std.proofs.lemmas.Bool.{cases_eq}
use Rattle.std.proofs.lemmas.List.{get_or_push, get_or_append_left, length_push}
use Rattle.std.proofs.lemmas.Option.{get_or_from_slice_get, slice_get_within, slice_get-get_or}
use Rattle.rx_cycle.specs.declared.ends.Ends.{Ends}
use Rattle.rx_cycle.specs.Graph.{IsLink, AreBelow}
use Rattle.rx_cycle.proofs.tests.first.Goals as goal

of_none : (n : ℕ) → AreBelow n []
of_none n = record {
  source = λ i link l. let h = slice_get_within [] i link l in absurd (omega arith);
  target = λ i link l. let h = slice_get_within [] i link l in absurd (omega arith);
}

either : (P : Ends → Type 0) (links : List Ends) (one : Ends) → ((i : ℕ) (link : Ends) → IsLink links i link → P link) → P one → (i : ℕ) (link : Ends) → IsLink (links ++ one ∷ []) i link → P link
either P links one old new i link l =
    let h = slice_get_within (links ++ one ∷ []) i link l in
    let e = length_push links one in
    let x = get_or_from_slice_get (links ++ one ∷ []) i link link l in
    ⊎_elim
    (λ (q : i ≡ length links). subst P (sym (get_or_push links one link i (sym q)) ∙ x) new)
    (λ (q : i ≡ length links → ⊥). let b : i < length links = omega arith in old i link (slice_get-get_or links i link b ∙ ap (λ (y : Ends). Some y) (sym (get_or_append_left links (one ∷ []) link i b) ∙ x)))
    (cases_eq i (length links))

one_more : (n : ℕ) (links pushed : List Ends) (one : Ends) → pushed ≡ links ++ one ∷ [] → AreBelow n links → one.source < n → one.target < n → AreBelow n pushed
one_more n links pushed one e b s t = subst (λ (ls : List Ends). AreBelow n ls) (sym e) record {
  source = either (λ link. link.source < n) links one b.source s;
  target = either (λ link. link.target < n) links one b.target t;
}

pub loop-index-init : goal.loop-index-init
loop-index-init c = subst (λ (ls : List Ends). AreBelow c.args.nodes ls) (sym (search rules)) (of_none c.args.nodes)

pub loop-index-preserved : goal.loop-index-preserved
loop-index-preserved c = one_more c.args.nodes c.loop-index.links.items c.push.new.self.items _ c.in_ok-push.ensures.items c.loop-index.invariant (let h = c.requires in omega arith) (let h = c.requires in omega arith)
