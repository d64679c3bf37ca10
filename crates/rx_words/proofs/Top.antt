-- What clap makes of all the words.
use Rattle.std.proofs.Common.{◌≡◌, ◌∙◌, ℕ, Bool, true, false, List, [], ◌∷◌, ◌++◌, Option, Some, None, is_some, not, ◌&&◌, ◌||◌, refl, sym, ap, ap₂, codes, cond, true≢false, subst, map}
use Rattle.std.proofs.Math.Bool.{and-false, or-false, or-true}
use Rattle.std.specs.Prelude.{find, fold, option_and_then, option_map, slice_get, length}
use Rattle.std.specs.Option.{option_map_or}
use Rattle.std.specs.Str.{bytes_eq, IsUtf8}
use Rattle.clap.specs.Walk.{Row, Rule, Held, Walk, Names, walk, walk_from, walked, nothing_held, settled, with_default, has_row, rows_after, stop_after, finished, default_rows, reading_by, is_empty, subcommand_met, subcommand_or_other, long_or_other, short_or_plain, trailing, idle, Step, after_step}
use Rattle.clap.specs.Simple.{App, Shape, new_rule, new_shape, new_app, built, is_simple, with_subcommand, subcommand_of, on_top, label_of, names_of, entered}
use Rattle.clap.specs.Kinds.{Kinds, or_else}
use Rattle.clap.specs.Faults.{fault_of, is_simple_and_free, level_fault, defaults_fault, walk_fault, settle_fault, turn_fault, default_fault, given_default_fault, other_fault, step_fault, entered_fault, check_fault, flag_word_fault, bundle_fault, flags_fault, bundle_step_fault}
use Rattle.clap.proofs.FaultLemmas.{stopped_fault}
use Rattle.clap.proofs.WalkLemmas.{walk_stopped}
use Rattle.clap.proofs.OnLiterals.{clap_on_literals}
use Rattle.clap.specs.Lexer.{long_of, short_of}
use Rattle.clap.specs.declared.error.kind.ErrorKind.TheVariants as kind
use Rattle.rx_words.specs.App.{app, sub_shape}
use Rattle.rx_words.specs.declared.line.CommandName.{CommandName}
use Rattle.rx_words.specs.declared.line.CommandName.TheVariants.{Check, Decode, Encode, Run, Load}
use Rattle.rx_words.specs.Form.{Text, operand, splits, deep, Given, nothing_given, any_word, given_by, given_from, name_of, command_named, parts_of}
use Rattle.rx_words.proofs.Walks.{rules, rule_at, leaf, judged_words, Judged, Verdict, EachUtf8, Gives, Fails, fails_as, cons_fails, after_hyphen, short_shape, or_left, total, end_of, walk_at}

pub app_simple : is_simple app ≡ true
app_simple = refl

pub app_simple_and_free : is_simple_and_free app ≡ true
app_simple_and_free = refl

abbrev pub leaves : List Shape
leaves = leaf (codes "check") ∷ leaf (codes "decode") ∷ leaf (codes "encode") ∷ leaf (codes "run") ∷ leaf (codes "load") ∷ []

leaves_built : (built app).subs ≡ leaves
leaves_built = refl

-- ---- one command's words

same_cond : {A : Type 0} (b : Bool) (x : A) → cond b x x ≡ x
same_cond true x = refl
same_cond false x = refl

keeps_rows : (a : Rule) (rows : List Row) → a.defaults ≡ [] → with_default rows a ≡ rows
keeps_rows a rows e = ap (λ d. cond (has_row a.id rows) rows (default_rows a.id (reading_by a) d rows)) e ∙ same_cond (has_row a.id rows) rows

keeps_right : (a : Rule) (rows : List Row) → a.defaults ≡ [] → default_fault rows a ≡ []
keeps_right a rows e = ap (λ d. cond (has_row a.id rows || is_empty d) [] (given_default_fault a d)) e ∙ ap (λ b. cond b [] (given_default_fault a [])) (or-true (has_row a.id rows))

no_defaults : (rows : List Row) → fold with_default rows rules ≡ rows
no_defaults rows = keeps_rows (rule_at deep) (with_default (with_default rows (rule_at operand)) (rule_at splits)) refl ∙ keeps_rows (rule_at splits) (with_default rows (rule_at operand)) refl
    ∙ keeps_rows (rule_at operand) rows refl

no_default_fault : (rows : List Row) → defaults_fault rows rules ≡ []
unfolding defaults_fault
no_default_fault rows =
    ap (λ k. or_else k (or_else (default_fault (with_default rows (rule_at operand)) (rule_at splits)) (or_else (default_fault (with_default (with_default rows (rule_at operand)) (rule_at splits)) (rule_at deep)) []))) (keeps_right (rule_at operand) rows refl)
    ∙ ap₂ (λ j k. or_else j (or_else k [])) (keeps_right (rule_at splits) (with_default rows (rule_at operand)) refl) (keeps_right (rule_at deep) (with_default (with_default rows (rule_at operand)) (rule_at splits)) refl)

or_nil : (k : Kinds) → or_else k [] ≡ k
or_nil [] = refl
or_nil (x ∷ xs) = refl

level_total : (name : Text) (words : List Text) → level_fault (leaf name) [] nothing_held words false [] ≡ total name (walk_from nothing_held) words
level_total name words =
    let end = end_of (walk_from nothing_held) words in
    ap (λ d. or_else (walk_fault (leaf name) [] (walk_from nothing_held) words) (or_else (settle_fault rules false end) (or_else d []))) (no_default_fault (settled rules end).rows)
    ∙ ap (or_else (walk_fault (leaf name) [] (walk_from nothing_held) words)) (or_nil (settle_fault rules false end))

abbrev pub LevelVerdict : Text → Option Given → List Text → Type 0
LevelVerdict name (Some g) words = (level_fault (leaf name) [] nothing_held words false [] ≡ []) × Gives g (rows_after rules [] words)
LevelVerdict name None words = Fails (level_fault (leaf name) [] nothing_held words false [])

nothing_gives : Gives nothing_given []
nothing_gives operand = (refl, refl)
nothing_gives splits = (refl, refl)
nothing_gives deep = (refl, refl)

as_level : (name : Text) (o : Option Given) (words : List Text) → Verdict name o (walk_from nothing_held) words → LevelVerdict name o words
as_level name (Some g) words v = (level_total name words ∙ v.0, subst (Gives g) (sym (no_defaults (settled rules (end_of (walk_from nothing_held) words)).rows)) v.1)
as_level name None words v = fails_as _ _ (level_total name words) v

level : (name : Text) (words : List Text) → EachUtf8 words → LevelVerdict name (given_by words) words
level name words u = as_level name (given_by words) words (judged_words name words u any_word nothing_given [] None (record { passes = refl; gives = nothing_gives }))

-- ---- the first word

abbrev pub names : Names
names = (codes "check", []) ∷ (codes "decode", []) ∷ (codes "encode", []) ∷ (codes "run", []) ∷ (codes "load", []) ∷ []

abbrev pub top : Shape
top = (built app).top

names_built : names_of (built app) ≡ names
names_built = refl

met_name : (word : Text) → subcommand_met names idle word ≡ option_map name_of (command_named word)
met_name word = go (bytes_eq (codes "check") word) (bytes_eq (codes "decode") word) (bytes_eq (codes "encode") word) (bytes_eq (codes "run") word) (bytes_eq (codes "load") word)
  where
    found : Bool → Bool → Bool → Bool → Bool → Option (Text × List Text)
    found c d e r l = cond (c || false) (Some (codes "check", [])) (cond (d || false) (Some (codes "decode", [])) (cond (e || false) (Some (codes "encode", []))
        (cond (r || false) (Some (codes "run", [])) (cond (l || false) (Some (codes "load", [])) None))))

    named : Bool → Bool → Bool → Bool → Bool → Option CommandName
    named c d e r l = cond c (Some Check) (cond d (Some Decode) (cond e (Some Encode) (cond r (Some Run) (cond l (Some Load) None))))

    go : (c d e r l : Bool) → option_map (λ (s : Text × List Text). s.0) (cond (c || false) (Some (codes "check", [])) (cond (d || false) (Some (codes "decode", [])) (cond (e || false) (Some (codes "encode", []))
        (cond (r || false) (Some (codes "run", [])) (cond (l || false) (Some (codes "load", [])) None))))) ≡ option_map name_of (cond c (Some Check) (cond d (Some Decode) (cond e (Some Encode) (cond r (Some Run) (cond l (Some Load) None)))))
    go true d e r l = refl
    go false true e r l = refl
    go false false true r l = refl
    go false false false true l = refl
    go false false false false true = refl
    go false false false false false = refl

abbrev pub first_met : Text → Option Text → Held × Step
first_met word o = subcommand_or_other [] o idle 1 word nothing_held

abbrev pub first_fault : Text → Option Text → Kinds
first_fault word o = or_else (other_fault top o word nothing_held) (step_fault top 1 (first_met word o).0 (first_met word o).1)

abbrev pub first_walked : Text → Option Text → Walk
first_walked word o = after_step [] word (walk_from nothing_held) (first_met word o).0 (first_met word o).1

first_turn : (word : Text) (o : Option Text) → subcommand_met names idle word ≡ o → turn_fault top names (walk_from nothing_held) word ≡ first_fault word o
first_turn word o e = ap (first_fault word) e

first_walk : (word : Text) (o : Option Text) → subcommand_met names idle word ≡ o → walked [] names (walk_from nothing_held) word ≡ first_walked word o
unfolding walked
first_walk word o e = ap (first_walked word) e

-- all faults, by those of the walk over the words and where it ends
abbrev pub all_faults : Kinds → Walk → Kinds
all_faults faults w = or_else faults (or_else (entered_fault (built app) w.stopped) (or_else (settle_fault [] false w.held)
    (or_else (defaults_fault (settled [] w.held).rows []) (check_fault top (finished [] w.held) (is_some (entered (built app) w.stopped))))))

faults_are : (words : List Text) → fault_of app words ≡ all_faults (walk_fault top names (walk_from nothing_held) words) (walk [] names nothing_held words)
faults_are words = refl

abbrev pub AppVerdict : Option (CommandName × Given) → List Text → Type 0
AppVerdict (Some p) words = (fault_of app words ≡ []) × (rows : List Row) × (subcommand_of app words ≡ Some (name_of p.0, rows)) × Gives p.1 rows
AppVerdict None words = Fails (fault_of app words)

stopped_at : CommandName → List Text → Walk
stopped_at command rest = record (walk_from nothing_held) { stopped = Some (name_of command, rest) }

enters_level : (command : CommandName) (rest : List Text) → all_faults [] (record (walk_from nothing_held) { stopped = Some (name_of command, rest) }) ≡ or_else (level_fault (leaf (name_of command)) [] nothing_held rest false []) []
unfolding defaults_fault
enters_level Check rest = refl
enters_level Decode rest = refl
enters_level Encode rest = refl
enters_level Run rest = refl
enters_level Load rest = refl

enters_rows : (command : CommandName) (rest : List Text) → entered (built app) (Some (name_of command, rest)) ≡ Some (name_of command, rows_after rules [] rest)
enters_rows Check rest = refl
enters_rows Decode rest = refl
enters_rows Encode rest = refl
enters_rows Run rest = refl
enters_rows Load rest = refl

named_fault : (command : CommandName) (word : Text) → first_fault word (Some (name_of command)) ≡ []
named_fault Check word = refl
named_fault Decode word = refl
named_fault Encode word = refl
named_fault Run word = refl
named_fault Load word = refl

-- the words begin with a command
enters : (command : CommandName) (word : Text) (rest : List Text) → command_named word ≡ Some command
    → (fault_of app (word ∷ rest) ≡ or_else (level_fault (leaf (name_of command)) [] nothing_held rest false []) [])
    × (subcommand_of app (word ∷ rest) ≡ Some (name_of command, rows_after rules [] rest))
unfolding walk_fault
enters command word rest e =
    let met : subcommand_met names idle word ≡ Some (name_of command) = met_name word ∙ ap (option_map name_of) e in
    let stopped : Walk = record (walk_from nothing_held) { stopped = Some (name_of command, []) } in
    let first : walked [] names (walk_from nothing_held) word ≡ stopped = first_walk word (Some (name_of command)) met in
    let walks : walk [] names nothing_held (word ∷ rest) ≡ record (walk_from nothing_held) { stopped = Some (name_of command, rest) } =
    ap (λ (w : Walk). fold (walked [] names) w rest) first ∙ sym (walk_stopped [] names (walk_from nothing_held) (name_of command) [] rest) in
    let passes : walk_fault top names (walk_from nothing_held) (word ∷ rest) ≡ [] =
    ap₂ (λ (k : Kinds) (w : Walk). or_else k (walk_fault top names w rest)) (first_turn word (Some (name_of command)) met ∙ named_fault command word) first
    ∙ stopped_fault top names (walk_from nothing_held) (name_of command, []) rest in
    (faults_are (word ∷ rest) ∙ ap₂ all_faults passes walks ∙ enters_level command rest, ap (λ (w : Walk). entered (built app) w.stopped) walks ∙ enters_rows command rest)

named_verdict : (command : CommandName) (word : Text) (rest : List Text) (o : Option Given) → command_named word ≡ Some command → LevelVerdict (name_of command) o rest
    → AppVerdict (option_map (λ g. (command, g)) o) (word ∷ rest)
named_verdict command word rest (Some g) e v =
    let h = enters command word rest e in
    (h.0 ∙ ap (λ k. or_else k []) v.0, rows_after rules [] rest, h.1, v.1)
named_verdict command word rest None e v =
    let h = enters command word rest e in
    fails_as _ _ (h.0 ∙ or_nil _) v

-- ---- a first word that is no command

fails_first : (word : Text) (rest : List Text) → subcommand_met names idle word ≡ None → Fails (first_fault word None) → Fails (fault_of app (word ∷ rest))
unfolding walk_fault
fails_first word rest met f = or_left _ _ (or_left _ _ (fails_as _ _ (first_turn word None met) f))

unknown_short : (x : ℕ) (xs : Text) → IsUtf8 (45 ∷ x ∷ xs) → bundle_fault [] false (x ∷ xs) nothing_held ≡ kind.UnknownArgument ∷ []
unfolding flags_fault
unknown_short x xs u =
    let c = after_hyphen x xs u in
    ap (λ (l : Text). bundle_step_fault [] false (slice_get l 0) (x ∷ xs) 0 nothing_held (flags_fault [] false (length xs))) c.2

-- `--`, and then nothing, or a word that no positional takes
dashes_fail : (word : Text) (rest : List Text) → subcommand_met names idle word ≡ None → bytes_eq word (codes "--") ≡ true → Fails (fault_of app (word ∷ rest))
unfolding walk_fault walked defaults_fault
dashes_fail word rest met e = go rest
  where
    after : Walk
    after = record { held = nothing_held; waiting = idle; position = 1; is_trailing = true; stopped = None }

    by : Bool → Held × Step
    by b = cond b (nothing_held, trailing 1) (long_or_other [] idle word (long_of word) nothing_held)

    step : walked [] names (walk_from nothing_held) word ≡ record { held = nothing_held; waiting = idle; position = 1; is_trailing = true; stopped = None }
    step = first_walk word None met ∙ ap (λ b. after_step [] word (walk_from nothing_held) (cond b (nothing_held, trailing 1) (long_or_other [] idle word (long_of word) nothing_held)).0 (cond b (nothing_held, trailing 1) (long_or_other [] idle word (long_of word) nothing_held)).1) e

    turn : turn_fault top names (walk_from nothing_held) word ≡ []
    turn = first_turn word None met ∙ ap (λ b. or_else (cond b [] (flag_word_fault [] false (long_of word) word nothing_held))
        (step_fault top 1 (cond b (nothing_held, trailing 1) (long_or_other [] idle word (long_of word) nothing_held)).0 (cond b (nothing_held, trailing 1) (long_or_other [] idle word (long_of word) nothing_held)).1)) e

    go : (rest : List Text) → Fails (fault_of app (word ∷ rest))
    go [] = fails_as _ _ (faults_are (word ∷ []) ∙ ap₂ (λ (k : Kinds) (w : Walk). all_faults (or_else k []) w) turn step) (cons_fails kind.MissingSubcommand [])
    go (next ∷ more) = fails_as _ _ (faults_are (word ∷ next ∷ more)
        ∙ ap₂ (λ (k : Kinds) (w : Walk). all_faults (or_else k (or_else (turn_fault top names w next) (walk_fault top names (walked [] names w next) more))) (fold (walked [] names) w (next ∷ more))) turn step) (cons_fails _ _)

unnamed_fails : (word : Text) (rest : List Text) → IsUtf8 word → command_named word ≡ None → Fails (fault_of app (word ∷ rest))
unnamed_fails word rest u e = go (bytes_eq word (codes "--")) (long_of word) (short_of word) refl refl refl
  where
    met : subcommand_met names idle word ≡ None
    met = met_name word ∙ ap (option_map name_of) e

    by : Bool → Option (Text × Option Text) → Option Text → Kinds
    by b long short = or_else (cond b [] (flag_word_fault [] false long word nothing_held)) []

    go : (dashes : Bool) (long : Option (Text × Option Text)) (short : Option Text) → bytes_eq word (codes "--") ≡ dashes → long_of word ≡ long → short_of word ≡ short → Fails (fault_of app (word ∷ rest))
    go true long short d l s = dashes_fail word rest (met_name word ∙ ap (option_map name_of) e) d
    go false (Some p) short d l s = fails_first word rest (met_name word ∙ ap (option_map name_of) e)
        (or_left _ _ (fails_as _ _ (ap₂ (λ b lo. cond b [] (flag_word_fault [] false lo word nothing_held)) d l) (cons_fails _ _)))
    go false None (Some flags) d l s =
        let shape = short_shape word flags s in
        let unknown = unknown_short shape.0 shape.1 (subst IsUtf8 shape.2 u) in
        fails_first word rest (met_name word ∙ ap (option_map name_of) e)
        (or_left _ _ (fails_as _ _ (ap₂ (λ b lo. cond b [] (flag_word_fault [] false lo word nothing_held)) d l
        ∙ ap (λ o. option_map_or (λ f. bundle_fault [] false f nothing_held) o []) (s ∙ ap (λ f. Some f) shape.3) ∙ unknown) (cons_fails _ _)))
    go false None None d l s = fails_first word rest (met_name word ∙ ap (option_map name_of) e)
        (fails_as _ _ (ap₂ (λ b lo. or_else (cond b [] (flag_word_fault [] false lo word nothing_held)) (step_fault top 1 (cond b (nothing_held, trailing 1) (long_or_other [] idle word lo nothing_held)).0 (cond b (nothing_held, trailing 1) (long_or_other [] idle word lo nothing_held)).1)) d l
        ∙ ap (λ o. or_else (option_map_or (λ f. bundle_fault [] false f nothing_held) o []) (step_fault top 1 (short_or_plain [] idle word o nothing_held).0 (short_or_plain [] idle word o nothing_held).1)) s) (cons_fails _ _))

-- clap takes the words exactly where they have a form, and then gives what they give
pub app_verdict : (words : List Text) → EachUtf8 words → AppVerdict (parts_of words) words
unfolding walk_fault defaults_fault
app_verdict [] u = cons_fails _ _
app_verdict (word ∷ rest) u = go (command_named word) refl
  where
    go : (o : Option CommandName) → command_named word ≡ o → AppVerdict (option_and_then (λ command. option_map (λ g. (command, g)) (given_by rest)) (command_named word)) (word ∷ rest)
    go (Some command) e = subst (λ x. AppVerdict (option_and_then (λ c. option_map (λ g. (c, g)) (given_by rest)) x) (word ∷ rest)) (sym e)
        (named_verdict command word rest (given_by rest) e (level (name_of command) rest u.1))
    go None e = subst (λ x. AppVerdict (option_and_then (λ c. option_map (λ g. (c, g)) (given_by rest)) x) (word ∷ rest)) (sym e) (unnamed_fails word rest u.0 e)
