-- The lines that tell a choice release nothing, are plain, and none is an ok line.
use Rattle.std.proofs.Common.{ℕ, ◌≡◌, ◌⊎◌, List, [], ◌∷◌, ◌++◌, Bool, true, false, refl, sym, ap, subst, inl, inr, arith, get_or}
use Rattle.std.specs.Prelude.{Contains, map}
use Rattle.std.proofs.lemmas.List.Elements.{Contains-append_cases}
use Rattle.fleet_base.specs.declared.geometry.Cell.{Cell}
use Rattle.fleet_base.specs.declared.geometry.Visit.{Visit}
use Rattle.fleet_base.specs.declared.order.PairId.{PairId}
use Rattle.fleet_base.specs.declared.report.Report.{Report}
use Rattle.fleet_base.specs.declared.report.Report.TheVariants.{Arrive, Delay}
use Rattle.fleet_base.specs.Order.{Graph}
use Rattle.fleet_base.specs.State.{FleetState}
use Rattle.fleet_base.specs.World.{release_text}
use Rattle.fleet_base.proofs.Members.{in_none, in_one, in_cons}
use Rattle.fleet_base.proofs.AllVisits.{from_map}
use Rattle.fleet_base.proofs.LineLaws.{AtLeast, AtLeast-less, AllAtLeast}
use Rattle.cert_tree.specs.declared.node.CertPath.{CertPath}
use Rattle.cert_tree.specs.declared.node.Node.{Node}
use Rattle.cert_tree.specs.declared.node.Node.TheVariants.{Branch, Force, Cyclic, Bound, OpenLeaf}
use Rattle.cert_tree.specs.CertText.{cert_lines, path_line}
use Rattle.cert_tree.proofs.WrittenText.{lines_plain}
use Rattle.report_text.specs.declared.answer.Answer.{Answer}
use Rattle.report_text.specs.declared.answer.Answer.TheVariants as answer
use Rattle.report_text.specs.AnswerLine.{answer_line}
use Rattle.report_text.proofs.PlainLines.{answer_line-at_least}
use Rattle.order_choice.specs.declared.outcome.Outcome.{Outcome}
use Rattle.order_choice.specs.declared.outcome.Outcome.TheVariants.{Optimal, Spent}
use Rattle.fleet_serve.specs.declared.session.Settings.{Settings}
use Rattle.order_choice.specs.Choices.{cert_of}
use Rattle.fleet_serve.specs.Chosen.{order_answer, switch_lines, shown_lines, Chooses}

-- The line is one of a choice: it has no control byte, and begins neither as a release line nor as an ok line.
pub record IsChoiceLine (l : List ℕ) : Type 0 where
  pub plain : AtLeast 14 l
  pub first : get_or l 0 0 ≡ 114 → ⊥
  pub second : get_or l 1 0 ≡ 107 → ⊥

-- each of these lines is one
abbrev pub AreChoiceLines : List (List ℕ) → Type 0
AreChoiceLines lines = (l : List ℕ) → Contains lines l → IsChoiceLine l

none_are : AreChoiceLines []
none_are l h = absurd (in_none l h)

one_is : (l : List ℕ) → IsChoiceLine l → AreChoiceLines (l ∷ [])
one_is l is m h = subst IsChoiceLine (in_one l m h) is

both_are : (a b : List (List ℕ)) → AreChoiceLines a → AreChoiceLines b → AreChoiceLines (a ++ b)
both_are a b pa pb l h = go (Contains-append_cases a b l h)
  where
    go : Contains a l ⊎ Contains b l → IsChoiceLine l
    go (inl k) = pa l k
    go (inr k) = pb l k

first_is : (l : List ℕ) (ls : List (List ℕ)) → IsChoiceLine l → AreChoiceLines ls → AreChoiceLines (l ∷ ls)
first_is l ls is are m h = go (in_cons l ls m h)
  where
    go : (l ≡ m) ⊎ Contains ls m → IsChoiceLine m
    go (inl e) = subst IsChoiceLine e is
    go (inr k) = are m k

plain_answer : (a : Answer) → AtLeast 14 (answer_line a)
plain_answer a = AtLeast-less 14 32 (answer_line a) (omega arith) (answer_line-at_least a)

order_is : (cost : ℕ) (outcome : Outcome) → IsChoiceLine (answer_line (order_answer cost outcome))
order_is cost (Optimal cert) = record { plain = plain_answer (answer.Optimal cost); first = λ e. absurd (omega (arith, e)); second = λ e. absurd (omega (arith, e)) }
order_is cost (Spent cert least) = record { plain = plain_answer (answer.Spent cost least); first = λ e. absurd (omega (arith, e)); second = λ e. absurd (omega (arith, e)) }

switch_is : (q : PairId) → IsChoiceLine (answer_line (answer.Switch q))
switch_is q = record { plain = plain_answer (answer.Switch q); first = λ e. absurd (omega (arith, e)); second = λ e. absurd (omega (arith, e)) }

switches_are : (switched : List PairId) → AreChoiceLines (switch_lines switched)
switches_are switched l h = let m = from_map (λ (q : PairId). answer_line (answer.Switch q)) switched l h in subst IsChoiceLine m.2 (switch_is m.0)

-- the lines of certificates
cert_line : (l : List ℕ) → AtLeast 32 l → get_or l 0 0 ≡ 99 → get_or l 1 0 ≡ 101 → IsChoiceLine l
cert_line l a first second = record { plain = AtLeast-less 14 32 l (omega arith) a; first = λ e. absurd (omega (arith, first, e)); second = λ e. absurd (omega (arith, second, e)) }

paths_are : (ps : List CertPath) (rest : List (List ℕ)) → AllAtLeast 32 (map path_line ps ++ rest) → (AllAtLeast 32 rest → AreChoiceLines rest) → AreChoiceLines (map path_line ps ++ rest)
paths_are [] rest a then = then a
paths_are (p ∷ ps) rest a then = first_is (path_line p) (map path_line ps ++ rest) (cert_line (path_line p) a.0 refl refl) (paths_are ps rest a.1 then)

nodes_are : (nodes : List Node) → AllAtLeast 32 (cert_lines nodes) → AreChoiceLines (cert_lines nodes)
nodes_are [] a = none_are
nodes_are (Branch q ∷ nodes) a = first_is _ (cert_lines nodes) (cert_line _ a.0 refl refl) (nodes_are nodes a.1)
nodes_are (Force q side cycle ∷ nodes) a = first_is _ (cert_lines nodes) (cert_line _ a.0 refl refl) (nodes_are nodes a.1)
nodes_are (Cyclic cycle ∷ nodes) a = first_is _ (cert_lines nodes) (cert_line _ a.0 refl refl) (nodes_are nodes a.1)
nodes_are (Bound paths ∷ nodes) a = first_is _ (map path_line paths ++ cert_lines nodes) (cert_line _ a.0 refl refl) (paths_are paths (cert_lines nodes) a.1 (λ b. nodes_are nodes b))
nodes_are (OpenLeaf least ∷ nodes) a = first_is _ (cert_lines nodes) (cert_line _ a.0 refl refl) (nodes_are nodes a.1)

shown_are : (quiet : Bool) (outcome : Outcome) → AreChoiceLines (shown_lines quiet outcome)
shown_are true outcome = none_are
shown_are false outcome = nodes_are (cert_of outcome) (lines_plain (cert_of outcome))

-- what tells a choice is made of such lines
pub chosen_are : (g : Graph) (settings : Settings) (x : FleetState) (report : Report) (switched : List PairId) (lines : List (List ℕ)) → Chooses g settings x report switched lines → AreChoiceLines lines
chosen_are g settings x (Arrive i k tick) switched lines chooses = subst AreChoiceLines (sym chooses) none_are
chosen_are g settings x (Delay i k extra tick) switched lines chooses =
    subst AreChoiceLines (sym chooses.lines_are)
    (first_is (answer_line (order_answer chooses.cost chooses.outcome)) (switch_lines switched ++ shown_lines settings.quiet chooses.outcome) (order_is chooses.cost chooses.outcome)
    (both_are (switch_lines switched) (shown_lines settings.quiet chooses.outcome) (switches_are switched) (shown_are settings.quiet chooses.outcome)))

-- such a line releases nothing
pub choice_releases_nothing : (l : List ℕ) → IsChoiceLine l → (u : Visit) (c : Cell) → l ≡ release_text u c → ⊥
choice_releases_nothing l is u c e = is.first (ap (λ (k : List ℕ). get_or k 0 0) e)

-- and is no ok line
pub choice_is_no_ok : (l : List ℕ) → IsChoiceLine l → (n : ℕ) → l ≡ answer_line (answer.Done n) → ⊥
choice_is_no_ok l is n e = is.second (ap (λ (k : List ℕ). get_or k 1 0) e)
