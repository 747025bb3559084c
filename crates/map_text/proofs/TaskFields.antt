-- The fields of a line, as they are read.
use Rattle.std.proofs.Common.{ℕ, ◌≡◌, ◌≢◌, ◌<◌, ◌≤◌, ◌^◌, Bool, true, false, not, eqb, IsTrue, List, [], map, length, get_or, Option, Some, None, Result, Bor, refl, sym, ap, ◌∙◌, arith}
use Rattle.std.specs.Prelude.{IfNone, All, ◌↔◌}
use Rattle.std.specs.List.{AllWithin, HoldsAt}
use Rattle.std.specs.Bool.{MatchBool}
use Rattle.std.specs.Result.{result_ok, OkIff}
use Rattle.std.proofs.lemmas.Bool.{eqb-true, false≢true}
use Rattle.std.proofs.lemmas.List.{get_or-map, length-map, nil_from_length}
use Rattle.std.proofs.lemmas.Fmt.{decimal_injective}
use Rattle.fleet_base.specs.Bytes.{IsNumber}
use Rattle.fleet_base.proofs.Numbers.{too_large}
use Rattle.map_text.specs.ScenText.{IsCount}
use Rattle.map_text.specs.TaskLines.{AreFilled}

-- a field, as it is lent
pub field_here : (fields : List (Bor (List ℕ))) (k : ℕ) (x : Bor (List ℕ)) → k < length fields → x ≡ get_or fields k x → get_or (map (λ f. f.now) fields) k [] ≡ x.now
field_here fields k x inside is = get_or-map (λ (f : Bor (List ℕ)). f.now) fields k x [] inside ∙ ap (λ (f : Bor (List ℕ)). f.now) (sym is)

-- a number that is no count is not below 2^32
pub no_count : (field : List ℕ) (value : ℕ) → IsNumber field value → 2 ^ 32 ≤ value → (n : ℕ) → IsCount field n → ⊥
no_count field value is large n count =
    let same : value ≡ n = decimal_injective value n is.fits (let h = count.fits in omega arith) (sym is.digits ∙ count.digits) in
    let fits = count.fits in
    omega (arith, same)

-- a number that does not fit
pub no_count_left : {E : Type 0} (field : List ℕ) (value : ℕ) (r : Result ℕ E) (o : Option ℕ) → IsNumber field value → OkIff r (value < 2 ^ 32) value → o ≡ result_ok r → IfNone o ((n : ℕ) → IsCount field n → ⊥)
no_count_left field value r None is fits e = no_count field value is (too_large r value (2 ^ 32) fits e)
no_count_left field value r (Some n) is fits e = tt

-- a count is a number
pub count_is_number : (field : List ℕ) (n : ℕ) → IsCount field n → IsNumber field n
count_is_number field n count = record { digits = count.digits; fits = let h = count.fits in omega arith }

-- nine fields of which none is empty
module _ (fields : List (Bor (List ℕ))) (nine : length fields ≡ 9) where
  pub all_filled : AllWithin (λ f. f.now ≢ []) fields 0 (length fields) → AreFilled (map (λ f. f.now) fields)
  all_filled each = record { nine = length-map fields (λ (f : Bor (List ℕ)). f.now) ∙ nine; filled = filled }
    where
      here : (k : ℕ) (d : Bor (List ℕ)) (e : List ℕ) → k < length fields → get_or (map (λ f. f.now) fields) k e ≢ []
      here k d e inside empty = each k d (omega arith) inside (sym (get_or-map (λ (f : Bor (List ℕ)). f.now) fields k d e inside) ∙ empty)

      filled : All (λ field. field ≢ []) (map (λ f. f.now) fields)
      filled k e inside = here k (record { ref_ptr = (0, 0); now = e }) e (omega (arith, length-map fields (λ (f : Bor (List ℕ)). f.now)))

  pub not_filled : (k : ℕ) → k < length fields → HoldsAt (λ f. f.now ≡ []) fields k → AreFilled (map (λ f. f.now) fields) → ⊥
  not_filled k inside holds filled =
      let d : Bor (List ℕ) = record { ref_ptr = (0, 0); now = [] } in
      filled.filled k [] (omega (arith, length-map fields (λ (f : Bor (List ℕ)). f.now))) (get_or-map (λ (f : Bor (List ℕ)). f.now) fields k d [] inside ∙ holds d)

  -- the answer of a test of each
  pub told_filled : (r : Bool) → MatchBool r (AllWithin (λ f. f.now ≢ []) fields 0 (length fields)) ((k : ℕ) × (k < length fields) × HoldsAt (λ f. f.now ≡ []) fields k) → IsTrue r ↔ AreFilled (map (λ f. f.now) fields)
  told_filled true each = (λ _. all_filled each, λ _. refl)
  told_filled false some = (λ no. absurd (false≢true no), λ filled. absurd (not_filled some.0 some.1 some.2 filled))

-- what the test of a field says
denied : (b : Bool) → false ≡ not b → b ≡ true
denied true e = refl
denied false e = absurd (false≢true e)

pub not_blank_field : (text : List ℕ) → true ≡ not (eqb (length text) 0) → text ≢ []
not_blank_field text e empty =
    let f : true ≡ false = e ∙ ap (λ (t : List ℕ). not (eqb (length t) 0)) empty in
    false≢true (sym f)

pub blank_field : (text : List ℕ) → false ≡ not (eqb (length text) 0) → text ≡ []
blank_field text e = nil_from_length text (eqb-true _ _ (denied _ e))
