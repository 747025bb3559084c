-- What is drawn, word by word.
use Rattle.std.proofs.Common.{ℕ, suc, zero, ◌≡◌, ◌+◌, ◌-◌, ◌<◌, ◌/◌, ◌%◌, List, [], ◌∷◌, ◌++◌, Bool, true, false, refl, sym, ap, ◌∙◌, arith, length}
use Rattle.std.specs.Prelude.{slice_index, ◌==◌, ◌||◌, not}
use Rattle.std.specs.List.{swap, list_any, range_with_len}
use Rattle.std.proofs.lemmas.List.FromFn.{length-range_with_len, map-range_with_len_more}
use Rattle.std.proofs.lemmas.List.Edits.{length-swap}
use Rattle.rand_pcg.specs.Lcg.{Lcg}
use Rattle.rand_pcg.specs.Pcg.{pcg32}
use Rattle.fleet_base.proofs.Ranges.{range_more}
use Rattle.fleet_gen.specs.declared.road.Road.{Road}
use Rattle.fleet_gen.specs.Roads.{is_on_road}
use Rattle.fleet_gen.specs.Words.{after, word_of}
use Rattle.fleet_gen.specs.Draws.{shuffled, road_of, roads_of, stays_free, marks_of}

plus_one : (n : ℕ) → n + 1 ≡ suc n
plus_one n = omega arith

-- one number more
pub numbers_more : (n : ℕ) → range_with_len 0 (n + 1) ≡ range_with_len 0 n ++ n ∷ []
numbers_more n =
    let whole : n + 1 ≡ (n + 1) - 0 = omega arith in
    let front : n - 0 ≡ n = omega arith in
    ap (range_with_len 0) whole ∙ (range_more n ∙ ap (λ (m : ℕ). range_with_len 0 m ++ n ∷ []) front)

module _ (g : Lcg) where
  pub after_none : after 0 g ≡ g
  unfolding after
  after_none = refl

  -- the next word is that of the number of words before
  pub word_drawn : (n word : ℕ) (here next : Lcg) → here ≡ after n g → (word, next) ≡ pcg32 here → word ≡ word_of g n
  unfolding word_of
  word_drawn n word here next e d = ap (λ (p : ℕ × Lcg). p.0) d ∙ ap (λ (h : Lcg). (pcg32 h).0) e

  pub generator_drawn : (n word : ℕ) (here next : Lcg) → here ≡ after n g → (word, next) ≡ pcg32 here → next ≡ after (n + 1) g
  unfolding after
  generator_drawn n word here next e d = ap (λ (p : ℕ × Lcg). p.1) d ∙ (ap (λ (h : Lcg). (pcg32 h).1) e ∙ sym (ap (λ (m : ℕ). after m g) (plus_one n)))

  -- words behind others
  pub after_after : (m n : ℕ) → after n (after m g) ≡ after (m + n) g
  unfolding after
  after_after m zero = ap (λ (k : ℕ). after k g) (let e : m ≡ m + zero = omega arith in e)
  after_after m (suc n) = ap (λ (h : Lcg). (pcg32 h).1) (after_after m n) ∙ ap (λ (k : ℕ). after k g) (let e : suc (m + n) ≡ m + suc n = omega arith in e)

  pub word_after : (m n : ℕ) → word_of (after m g) n ≡ word_of g (m + n)
  unfolding word_of
  word_after m n = ap (λ (h : Lcg). (pcg32 h).0) (after_after m n)

module _ (words : ℕ → ℕ) where
  pub shuffled_none : shuffled words 0 ≡ range_with_len 0 32
  unfolding shuffled
  shuffled_none = refl

  pub shuffled_more : (n : ℕ) → shuffled words (n + 1) ≡ swap (shuffled words n) (31 - n) (words n % (32 - n))
  unfolding shuffled
  shuffled_more n = ap (shuffled words) (plus_one n)

  pub length-shuffled : (n : ℕ) → length (shuffled words n) ≡ 32
  unfolding shuffled
  length-shuffled zero = length-range_with_len 0 32
  length-shuffled (suc n) = length-swap (shuffled words n) (31 - n) (words n % (32 - n)) ∙ length-shuffled n

  -- one exchange more
  pub exchange_more : (n word : ℕ) (goals new : List ℕ) → n < 31 → goals ≡ shuffled words n → word ≡ words n → new ≡ swap goals (31 - n) (word % (31 - n + 1)) → new ≡ shuffled words (n + 1)
  exchange_more n word goals new h g w e =
      let places : 31 - n + 1 ≡ 32 - n = omega (arith, h) in
      e ∙ (ap (λ (xs : List ℕ). swap xs (31 - n) (word % (31 - n + 1))) g
      ∙ (ap (λ (x : ℕ). swap (shuffled words n) (31 - n) (x % (31 - n + 1))) w
      ∙ (ap (λ (m : ℕ). swap (shuffled words n) (31 - n) (words n % m)) places ∙ sym (shuffled_more n))))

  pub roads_none : roads_of words 0 ≡ []
  unfolding roads_of
  roads_none = refl

  pub roads_more : (n : ℕ) → roads_of words (n + 1) ≡ roads_of words n ++ road_of words n ∷ []
  unfolding roads_of
  roads_more n = map-range_with_len_more (road_of words) 0 n n (omega arith)

  pub the_road : (i : ℕ) → road_of words i ≡ record { row = i; column = 1 + words (31 + i) % 30; goal = slice_index (shuffled words 31) i }
  unfolding road_of
  the_road i = refl

  -- the next road
  pub road_drawn : (n word goal : ℕ) (goals : List ℕ) → goals ≡ shuffled words 31 → word ≡ words (31 + n) → goal ≡ slice_index goals n
      → record { row = n; column = 1 + word % 30; goal = goal } ≡ road_of words n
  road_drawn n word goal goals g w e =
      let to : goal ≡ slice_index (shuffled words 31) n = e ∙ ap (λ (xs : List ℕ). slice_index xs n) g in
      let made : Road = record { row = n; column = 1 + word % 30; goal = goal } in
      let same : made ≡ record { row = n; column = 1 + words (31 + n) % 30; goal = slice_index (shuffled words 31) n } = λ i. record { row = n; column = 1 + w i % 30; goal = to i } in
      same ∙ sym (the_road n)

module _ (roads : List Road) (words : ℕ → ℕ) where
  pub marks_none : marks_of roads words 0 ≡ []
  unfolding marks_of
  marks_none = refl

  -- the next mark, where its cell is on a road and where it is on none
  pub mark_on_road : (n : ℕ) (on mark : Bool) → on ≡ list_any (λ road. is_on_road road (record { row = n / 32; col = n % 32 })) roads → on ≡ true → mark ≡ on → mark ≡ stays_free roads words n
  unfolding stays_free
  mark_on_road n on mark e t m = m ∙ (t ∙ ap (λ (b : Bool). b || not (words n % 10 == 0)) (sym t ∙ e))

  pub mark_apart : (n word : ℕ) (on mark : Bool) → on ≡ list_any (λ road. is_on_road road (record { row = n / 32; col = n % 32 })) roads → on ≡ false → word ≡ words n → mark ≡ not (word % 10 == 0) → mark ≡ stays_free roads words n
  unfolding stays_free
  mark_apart n word on mark e f w m = m ∙ (ap (λ (x : ℕ). not (x % 10 == 0)) w ∙ ap (λ (b : Bool). b || not (words n % 10 == 0)) (sym f ∙ e))

  pub marks_more : (n : ℕ) → marks_of roads words (n + 1) ≡ marks_of roads words n ++ stays_free roads words n ∷ []
  unfolding marks_of
  marks_more n = map-range_with_len_more (stays_free roads words) 0 n n (omega arith)
