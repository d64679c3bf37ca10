-- The ways from a node, link by link.
use Rattle.std.proofs.Common.{◌≡◌, refl, sym, ap, ◌∙◌, List, [], ◌∷◌, ◌++◌, map, ℕ, zero, suc, ◌+◌, ◌-◌, ◌<◌, Bool, true, false, drop, take, length, get_or, arith, append_assoc, length-append}
use Rattle.std.specs.Prelude.{if◌then◌else◌}
use Rattle.std.proofs.Math.Seq.{take-append_seam}
use Rattle.std.proofs.lemmas.List.{drop_more}
use Rattle.rx_graph.specs.declared.message.Node.{Node}
use Rattle.rx_graph.specs.declared.message.Link.{Link}
use Rattle.rx_graph.specs.Graph.{Arrow, arrow_of, arrows}
use Rattle.rx_graph.specs.Checks.{is_node}
use Rattle.rx_graph.specs.Onward.{onward, by_each}

pub arrows-append : (ls ks : List Link) → arrows (ls ++ ks) ≡ arrows ls ++ arrows ks
arrows-append [] ks = refl
arrows-append (l ∷ ls) ks = ap (λ xs. arrow_of l ∷ xs) (arrows-append ls ks)

pub length-arrows : (ls : List Link) → length (arrows ls) ≡ length ls
length-arrows [] = refl
length-arrows (l ∷ ls) = omega (arith, length-arrows ls)

pub onward_here : (links : List Arrow) (k : ℕ) (end at : Node) → is_node at end ≡ true → onward links k end at ≡ [] ∷ []
unfolding onward
onward_here links zero end at h = ap (λ (t : Bool). if t then [] ∷ [] else []) h
onward_here links (suc k) end at h = ap (λ (t : Bool). if t then [] ∷ [] else by_each (onward links k end) at 0 links) h

pub onward_none : (links : List Arrow) (k : ℕ) (end at : Node) → is_node at end ≡ false → k ≡ 0 → onward links k end at ≡ []
unfolding onward
onward_none links zero end at h e = ap (λ (t : Bool). if t then [] ∷ [] else []) h
onward_none links (suc k) end at h e = absurd (omega arith)

pub onward_step : (links : List Arrow) (k : ℕ) (end at : Node) → is_node at end ≡ false → 0 < k → onward links k end at ≡ by_each (onward links (k - 1) end) at 0 links
unfolding onward
onward_step links zero end at h p = absurd (omega arith)
onward_step links (suc k) end at h p =
    let e : k ≡ suc k - 1 = omega arith in
    ap (λ (t : Bool). if t then [] ∷ [] else by_each (onward links k end) at 0 links) h ∙ ap (λ (j : ℕ). by_each (onward links j end) at 0 links) e

pub onward_suc : (links : List Arrow) (k : ℕ) (end at : Node) → is_node at end ≡ false → onward links (suc k) end at ≡ by_each (onward links k end) at 0 links
unfolding onward
onward_suc links k end at h = ap (λ (t : Bool). if t then [] ∷ [] else by_each (onward links k end) at 0 links) h

map_twice : (front : List ℕ) (i : ℕ) (ways : List (List ℕ)) → map (λ p. front ++ p) (map (λ p. i ∷ p) ways) ≡ map (λ p. (front ++ i ∷ []) ++ p) ways
map_twice front i [] = refl
map_twice front i (w ∷ ways) = ap (λ (x : List ℕ). x ∷ map (λ p. front ++ p) (map (λ p. i ∷ p) ways)) (sym (append_assoc front (i ∷ []) w)) ∙ ap (λ (xs : List (List ℕ)). ((front ++ i ∷ []) ++ w) ∷ xs) (map_twice front i ways)

map_append : (front : List ℕ) (xs ys : List (List ℕ)) → map (λ p. front ++ p) (xs ++ ys) ≡ map (λ p. front ++ p) xs ++ map (λ p. front ++ p) ys
map_append front [] ys = refl
map_append front (x ∷ xs) ys = ap (λ (zs : List (List ℕ)). (front ++ x) ∷ zs) (map_append front xs ys)

-- paths behind no path are those paths
pub behind_none : (ways : List (List ℕ)) → map (λ p. [] ++ p) ways ≡ ways
behind_none [] = refl
behind_none (w ∷ ways) = ap (λ (xs : List (List ℕ)). w ∷ xs) (behind_none ways)

-- what the links from i on add, where `rest` is what they are
more_links : (links : List Link) (i : ℕ) (d : Link) → i < length links → arrows (drop i links) ≡ arrow_of (get_or links i d) ∷ arrows (drop (i + 1) links)
more_links links i d h = ap arrows (drop_more links i d h)

pub each_skip : (go : Node → List (List ℕ)) (at : Node) (i : ℕ) (links : List Link) (d : Link) → i < length links → is_node (get_or links i d).source at ≡ false → by_each go at i (arrows (drop i links)) ≡ by_each go at (i + 1) (arrows (drop (i + 1) links))
each_skip go at i links d h t =
    ap (λ (ls : List Arrow). by_each go at i ls) (more_links links i d h) ∙ ap (λ (b : Bool). (if b then map (λ p. i ∷ p) (go (get_or links i d).target) else []) ++ by_each go at (i + 1) (arrows (drop (i + 1) links))) t

pub each_take : (go : Node → List (List ℕ)) (at : Node) (i : ℕ) (links : List Link) (d : Link) (front : List ℕ) (done new : List (List ℕ)) → i < length links → is_node (get_or links i d).source at ≡ true → new ≡ done ++ map (λ p. (front ++ i ∷ []) ++ p) (go (get_or links i d).target)
    → new ++ map (λ p. front ++ p) (by_each go at (i + 1) (arrows (drop (i + 1) links))) ≡ done ++ map (λ p. front ++ p) (by_each go at i (arrows (drop i links)))
each_take go at i links d front done new h t e =
    let rest = by_each go at (i + 1) (arrows (drop (i + 1) links)) in
    let one = map (λ p. i ∷ p) (go (get_or links i d).target) in
    let step : by_each go at i (arrows (drop i links)) ≡ one ++ rest = ap (λ (ls : List Arrow). by_each go at i ls) (more_links links i d h) ∙ ap (λ (b : Bool). (if b then one else []) ++ rest) t in
    ap (λ (xs : List (List ℕ)). xs ++ map (λ p. front ++ p) rest) (e ∙ ap (λ (xs : List (List ℕ)). done ++ xs) (sym (map_twice front i (go (get_or links i d).target))))
    ∙ append_assoc done (map (λ p. front ++ p) one) (map (λ p. front ++ p) rest)
    ∙ ap (λ (xs : List (List ℕ)). done ++ xs) (sym (map_append front one rest) ∙ ap (λ (xs : List (List ℕ)). map (λ p. front ++ p) xs) (sym step))

-- a step of the loop over the links: at a link of the node, and at another one
pub take_step : (go : Node → List (List ℕ)) (at : Node) (i : ℕ) (links : List Link) (link : Link) (b : Bool) (front now pushed : List ℕ) (done new total : List (List ℕ)) → i < length links → link ≡ get_or links i link → b ≡ is_node link.source at → b ≡ true
    → pushed ≡ now ++ i ∷ [] → now ≡ front → new ≡ done ++ map (λ p. pushed ++ p) (go link.target)
    → done ++ map (λ p. front ++ p) (by_each go at i (arrows (drop i links))) ≡ total → new ++ map (λ p. front ++ p) (by_each go at (i + 1) (arrows (drop (i + 1) links))) ≡ total
take_step go at i links link b front now pushed done new total h l e t p n a inv =
    each_take go at i links link front done new h (ap (λ (k : Link). is_node k.source at) (sym l) ∙ sym e ∙ t)
    (a ∙ ap (λ (xs : List ℕ). done ++ map (λ p. xs ++ p) (go link.target)) (p ∙ ap (λ (xs : List ℕ). xs ++ i ∷ []) n) ∙ ap (λ (k : Link). done ++ map (λ p. (front ++ i ∷ []) ++ p) (go k.target)) l)
    ∙ inv

pub skip_step : (go : Node → List (List ℕ)) (at : Node) (i : ℕ) (links : List Link) (link : Link) (b : Bool) (front : List ℕ) (done new total : List (List ℕ)) → i < length links → link ≡ get_or links i link → b ≡ is_node link.source at → b ≡ false → new ≡ done
    → done ++ map (λ p. front ++ p) (by_each go at i (arrows (drop i links))) ≡ total → new ++ map (λ p. front ++ p) (by_each go at (i + 1) (arrows (drop (i + 1) links))) ≡ total
skip_step go at i links link b front done new total h l e t same inv =
    ap (λ (xs : List (List ℕ)). xs ++ map (λ p. front ++ p) (by_each go at (i + 1) (arrows (drop (i + 1) links)))) same
    ∙ ap (λ (ws : List (List ℕ)). done ++ map (λ p. front ++ p) ws) (sym (each_skip go at i links link h (ap (λ (k : Link). is_node k.source at) (sym l) ∙ sym e ∙ t)))
    ∙ inv

-- the paths of one link are among those of the node, so if they are too many, these are, too
pub too_many : (go : Node → List (List ℕ)) (at : Node) (i : ℕ) (links : List Link) (link : Link) (b : Bool) (front now pushed : List ℕ) (done total : List (List ℕ)) (n : ℕ) → i < length links → link ≡ get_or links i link → b ≡ is_node link.source at → b ≡ true
    → pushed ≡ now ++ i ∷ [] → now ≡ front → n < length (done ++ map (λ p. pushed ++ p) (go link.target))
    → done ++ map (λ p. front ++ p) (by_each go at i (arrows (drop i links))) ≡ total → n < length total
too_many go at i links link b front now pushed done total n h l e t p q above inv =
    let new = done ++ map (λ p. pushed ++ p) (go link.target) in
    let rest = map (λ p. front ++ p) (by_each go at (i + 1) (arrows (drop (i + 1) links))) in
    let all : new ++ rest ≡ total = take_step go at i links link b front now pushed done new total h l e t p q refl inv in
    omega (arith, above, length-append new rest, ap length all)

-- what is left when the last link is taken off again
pub cut_back : (front now pushed after new : List ℕ) (i d : ℕ) → now ≡ front → pushed ≡ now ++ i ∷ [] → after ≡ pushed → d ≡ length now → new ≡ take d after → new ≡ front
cut_back front now pushed after new i d n p a l t =
    t ∙ ap (λ (xs : List ℕ). take d xs) (a ∙ p) ∙ ap (λ (k : ℕ). take k (now ++ i ∷ [])) l ∙ take-append_seam now (i ∷ []) ∙ n
