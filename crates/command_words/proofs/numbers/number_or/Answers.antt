use Rattle.std.proofs.Common.{◌≡◌, ◌∙◌, sym, ap, subst, arith, ℕ, List, Option, Some}
use Rattle.std.specs.Prelude.{option_map, ◌≤◌}
use Rattle.std.proofs.lemmas.Fmt.{decimal_injective}
use Rattle.fleet_base.specs.Bytes.{IsNumber}
use Rattle.command_words.specs.Grammar.{IsNumberOr}
use Rattle.command_words.proofs.numbers.number_or.Goals as goal

same_number : (text : List ℕ) (m n : ℕ) → IsNumber text m → IsNumber text n → m ≡ n
same_number text m n a b = decimal_injective m n a.fits b.fits (sym a.digits ∙ b.digits)

given_number : (usual least most n m : ℕ) (given : Option (List ℕ)) (text : List ℕ) → given ≡ Some text → IsNumber text m → IsNumberOr usual least most given n → (m ≡ n) × (least ≤ n) × (n ≤ most)
given_number usual least most n m given text e a b =
    let r = subst (λ (g : Option (List ℕ)). IsNumberOr usual least most g n) e b in
    (same_number text m n a r.0, r.1, r.2)

pub returns-in_default-clause-none : goal.returns-in_default-clause-none
returns-in_default-clause-none c n is =
    let r = given_number c.args.usual c.args.least c.args.most n c.in-Some-read_number.number _ c.in-Some.text.now (ap (option_map (λ t. t.now)) c.in-Some.is) (subst (λ (t : List ℕ). IsNumber t c.in-Some-read_number.number) c.as_bytes.ensures.value c.in-Some-read_number.ensures.value) is in
    omega (arith, r.0, r.1, r.2, c.if-number-most.false)

pub returns-in_default-2-clause-none : goal.returns-in_default-2-clause-none
returns-in_default-2-clause-none c n is =
    let r = given_number c.args.usual c.args.least c.args.most n c.in-Some-read_number.number _ c.in-Some.text.now (ap (option_map (λ t. t.now)) c.in-Some.is) (subst (λ (t : List ℕ). IsNumber t c.in-Some-read_number.number) c.as_bytes.ensures.value c.in-Some-read_number.ensures.value) is in
    omega (arith, r.0, r.1, r.2, c.if-least-number.false)
