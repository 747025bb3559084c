-- The words of a random number generator in turn.
use Rattle.std.specs.Prelude.{ℕ, zero, suc}
use Rattle.rand_core.specs.Pcg32Seed.{pcg32_seed}
use Rattle.rand_pcg.specs.Lcg.{Lcg}
use Rattle.rand_pcg.specs.Pcg.{pcg32, pcg32_of_seed}

-- the generator after so many words
unfoldable pub after : ℕ → Lcg → Lcg
after zero g = g
after (suc n) g = (pcg32 (after n g)).1

-- its word of a number, the next one being number 0
unfoldable pub word_of : Lcg → ℕ → ℕ
word_of g n = (pcg32 (after n g)).0

-- the generator of a seed
unfoldable pub generator_of : ℕ → Lcg
generator_of seed = pcg32_of_seed (pcg32_seed 16 seed)
