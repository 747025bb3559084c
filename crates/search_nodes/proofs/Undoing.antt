-- Decisions that are taken back.
use Rattle.std.proofs.Common.{ℕ, ◌≡◌, ◌+◌, ◌-◌, ◌<◌, ◌≤◌, List, ap, ◌∙◌, arith, length, drop}
use Rattle.std.proofs.lemmas.List.{length-append, length-drop, drop-drop}
use Rattle.std.proofs.Math.Seq.{drop-append_seam}
use Rattle.longest_path.specs.declared.decision.Decision.{Decision as Given}
use Rattle.longest_path.specs.Deciding.{Deciding}
use Rattle.search_nodes.specs.Forcing.{IsAfter}

-- as many decisions as there were before are those from before
pub back_again : (old new : List Given) → IsAfter old new → drop (length new - length old) new ≡ old
back_again old new (more, e) = ap (λ (n : ℕ). drop n new) count ∙ ap (λ (ds : List Given). drop (length more) ds) e ∙ drop-append_seam more old
  where
    count : length new - length old ≡ length more
    count = let a = ap length e in omega (arith, a, length-append more old)

pub no_fewer : (old new : List Given) → IsAfter old new → length old ≤ length new
no_fewer old new (more, e) = let a = ap length e in omega (arith, a, length-append more old)

-- so many of the decisions are left
abbrev pub left : Deciding → ℕ → Deciding
left old n = record old { decisions = drop (length old.decisions - n) old.decisions }

-- one less
pub undone_more : (old now next : Deciding) → now ≡ left old (length now.decisions) → length now.decisions ≤ length old.decisions → 0 < length now.decisions → next ≡ record now { decisions = drop 1 now.decisions }
    → (next ≡ left old (length next.decisions)) × (length next.decisions + 1 ≡ length now.decisions)
undone_more old now next is few some e = (whole, less)
  where
    shorter : length next.decisions ≡ length now.decisions - 1
    shorter = ap (λ (d : Deciding). length d.decisions) e ∙ length-drop 1 now.decisions

    less : length next.decisions + 1 ≡ length now.decisions
    less = omega (arith, shorter, some)

    twice : drop 1 (drop (length old.decisions - length now.decisions) old.decisions) ≡ drop (length old.decisions - length next.decisions) old.decisions
    twice = drop-drop 1 (length old.decisions - length now.decisions) old.decisions ∙ ap (λ (k : ℕ). drop k old.decisions) (let z : length old.decisions - length now.decisions + 1 ≡ length old.decisions - length next.decisions = omega (arith, less, few) in z)

    whole : next ≡ left old (length next.decisions)
    whole = e ∙ ap (λ (d : Deciding). let r : Deciding = record d { decisions = drop 1 d.decisions } in r) is ∙ ap (λ (ds : List Given). let r : Deciding = record old { decisions = ds } in r) twice
