-- Words are those of one command.
use Rattle.std.proofs.Common.{◌≡◌, refl, subst, List, ◌∷◌, codes}
use Rattle.clap.specs.Walk.{Text}
use Rattle.command_words.specs.Commands.{AreOne, IsCommand}
use Rattle.command_words.specs.declared.command.Command.{Command}
use Rattle.command_words.specs.declared.command.Command.TheVariants.{Check, Run, Gen, Plan}
use Rattle.command_words.proofs.Values.{texts_differ}
use Rattle.command_words.proofs.FirstWord.{first_is, word_of}
use Rattle.command_words.proofs.Deciding.{same_check, same_run}
use Rattle.command_words.proofs.Makers.{same_gen, same_plan}

-- two commands of the same words have the same word
same_word : (words : List Text) (a b : Command) → IsCommand words a → IsCommand words b → word_of a ≡ word_of b
same_word words (Check m p) b x y = first_is (codes "check") _ b (subst (λ (l : List Text). IsCommand l b) x.written.words_are y)
same_word words (Run m p j n q) b x y = first_is (codes "run") _ b (subst (λ (l : List Text). IsCommand l b) x.written.words_are y)
same_word words (Gen s f) b x y = first_is (codes "gen") _ b (subst (λ (l : List Text). IsCommand l b) x.written.words_are y)
same_word words (Plan m s n h) b x y = first_is (codes "plan") _ b (subst (λ (l : List Text). IsCommand l b) x.written.words_are y)

-- words are those of one command at most
pub one_command : (words : List Text) (a b : Command) → IsCommand words a → IsCommand words b → AreOne a b
one_command words (Check m p) (Check m2 p2) x y = same_check words m.now p.now m2.now p2.now x y
one_command words (Run m p j n q) (Run m2 p2 j2 n2 q2) x y = same_run words m.now p.now j.now m2.now p2.now j2.now n n2 q q2 x y
one_command words (Gen s f) (Gen s2 f2) x y = same_gen words s s2 f f2 x y
one_command words (Plan m s n h) (Plan m2 s2 n2 h2) x y = same_plan words m.now s.now m2.now s2.now n h n2 h2 x y
one_command words (Check m p) (Run m2 p2 j2 n2 q2) x y = absurd (texts_differ (codes "check") (codes "run") refl (same_word words (Check m p) (Run m2 p2 j2 n2 q2) x y))
one_command words (Check m p) (Gen s2 f2) x y = absurd (texts_differ (codes "check") (codes "gen") refl (same_word words (Check m p) (Gen s2 f2) x y))
one_command words (Check m p) (Plan m2 s2 n2 h2) x y = absurd (texts_differ (codes "check") (codes "plan") refl (same_word words (Check m p) (Plan m2 s2 n2 h2) x y))
one_command words (Run m p j n q) (Check m2 p2) x y = absurd (texts_differ (codes "run") (codes "check") refl (same_word words (Run m p j n q) (Check m2 p2) x y))
one_command words (Run m p j n q) (Gen s2 f2) x y = absurd (texts_differ (codes "run") (codes "gen") refl (same_word words (Run m p j n q) (Gen s2 f2) x y))
one_command words (Run m p j n q) (Plan m2 s2 n2 h2) x y = absurd (texts_differ (codes "run") (codes "plan") refl (same_word words (Run m p j n q) (Plan m2 s2 n2 h2) x y))
one_command words (Gen s f) (Check m2 p2) x y = absurd (texts_differ (codes "gen") (codes "check") refl (same_word words (Gen s f) (Check m2 p2) x y))
one_command words (Gen s f) (Run m2 p2 j2 n2 q2) x y = absurd (texts_differ (codes "gen") (codes "run") refl (same_word words (Gen s f) (Run m2 p2 j2 n2 q2) x y))
one_command words (Gen s f) (Plan m2 s2 n2 h2) x y = absurd (texts_differ (codes "gen") (codes "plan") refl (same_word words (Gen s f) (Plan m2 s2 n2 h2) x y))
one_command words (Plan m s n h) (Check m2 p2) x y = absurd (texts_differ (codes "plan") (codes "check") refl (same_word words (Plan m s n h) (Check m2 p2) x y))
one_command words (Plan m s n h) (Run m2 p2 j2 n2 q2) x y = absurd (texts_differ (codes "plan") (codes "run") refl (same_word words (Plan m s n h) (Run m2 p2 j2 n2 q2) x y))
one_command words (Plan m s n h) (Gen s2 f2) x y = absurd (texts_differ (codes "plan") (codes "gen") refl (same_word words (Plan m s n h) (Gen s2 f2) x y))
