-- The node where a list of fields ends.
use Rattle.std.proofs.Common.{◌≡◌, ◌-◌, suc, List, [], ◌∷◌, ◌++◌, length, refl, sym, ap, ◌∙◌, Some, None, arith}
use Rattle.std.specs.Prelude.{slice_get}
use Rattle.rx_types.specs.declared.env.Entry.{Entry}
use Rattle.rx_types.specs.Environment.{Placed, places}
use Rattle.rx_graph.specs.declared.message.Node.TheVariants.{Start, At}
use Rattle.rx_draft.specs.Drafts.{end_node}

pub end_node-push : (ps : List Placed) (p : Placed) → end_node (ps ++ p ∷ []) ≡ At p.field
end_node-push [] p = refl
end_node-push (q ∷ []) p = refl
end_node-push (q ∷ r ∷ ps) p = end_node-push (r ∷ ps) p

none_some : (x : Entry) → None ≡ Some x → ⊥
none_some x h = cc

some_same : (x y : Entry) → Some x ≡ Some y → x ≡ y
some_same x y h = cc

pub node_at : (es : List Entry) (x : Entry) → slice_get es (length es - 1) ≡ Some x → end_node (places es) ≡ At x.field
node_at [] x h = absurd (none_some x h)
node_at (e ∷ []) x h = ap (λ y. At y.field) (some_same e x h)
node_at (e ∷ f ∷ es) x h =
    let n : length (e ∷ f ∷ es) - 1 ≡ suc (length (f ∷ es) - 1) = omega arith in
    node_at (f ∷ es) x (sym (ap (λ k. slice_get (e ∷ f ∷ es) k) n) ∙ h)
