use Rattle.std.proofs.Common.{◌≡◌, ℕ, ◌^◌, ◌<◌, List, ◌∷◌, length, refl, sym, ◌∙◌, subst, ap, arith}
use Rattle.journal_frame.specs.declared.header.HeaderParts.{HeaderParts}
use Rattle.fleet_journal.specs.Journal.{IsHeaderText}
use Rattle.fleet_journal.proofs.Create.{until_cleared, until_gate, until_header, until_end, at_end, stands_created, ends_shut, short_stays}
use Rattle.fleet_journal.proofs.journal.Journal.create.Goals as goal

-- the bytes of the text are those of the header
of_text : (text lent : List ℕ) (h : HeaderParts) → lent ≡ text → IsHeaderText text h → IsHeaderText lent h
of_text text lent h same is = subst (λ (l : List ℕ). IsHeaderText l h) (sym same) is

short : (text lent : List ℕ) → lent ≡ text → length text < 2 ^ 32 → length lent < 2 ^ 32
short text lent same few = omega (arith, few, ap length same)

pub returns-in_err-clear-clause-any_moment : goal.returns-in_err-clear-clause-any_moment
returns-in_err-clear-clause-any_moment g c told h is kept =
    until_cleared h _ (of_text _ _ h c.as_slice-header.ensures is) (short _ _ c.as_slice-header.ensures c.requires.few) _ _ (c.requires.blank told) (c.clear.ensures.any_moment told kept)

pub returns-in_err-put_gate-clause-any_moment : goal.returns-in_err-put_gate-clause-any_moment
returns-in_err-put_gate-clause-any_moment g c told h is kept =
    let kept1 = c.in_ok-clear.ensures.kept told kept in
    until_gate h _ (of_text _ _ h c.as_slice-header.ensures is) (short _ _ c.as_slice-header.ensures c.requires.few) _ _ _ (c.requires.blank told) (c.clear.ensures.any_moment told kept) (c.in_ok-clear.ensures.clears told) (c.put_gate.ensures.any_moment told kept1)

pub returns-in_err-put_header-clause-any_moment : goal.returns-in_err-put_header-clause-any_moment
returns-in_err-put_header-clause-any_moment g c told h is kept =
    let kept1 = c.in_ok-clear.ensures.kept told kept in
    let kept2 = c.in_ok-put_gate.ensures.kept told kept1 in
    until_header h _ (of_text _ _ h c.as_slice-header.ensures is) (short _ _ c.as_slice-header.ensures c.requires.few) _ _ _ _ (c.requires.blank told) (c.clear.ensures.any_moment told kept) (c.in_ok-clear.ensures.clears told) (c.put_gate.ensures.any_moment told kept1) (c.in_ok-put_gate.ensures.puts told) (c.put_header.ensures.any_moment told kept2)

pub returns-in_err-clear_long-clause-any_moment : goal.returns-in_err-clear_long-clause-any_moment
returns-in_err-clear_long-clause-any_moment g c told h is kept =
    let kept1 = c.in_ok-clear.ensures.kept told kept in
    let kept2 = c.in_ok-put_gate.ensures.kept told kept1 in
    let kept3 = c.in_ok-put_header.ensures.kept told kept2 in
    until_end h _ (of_text _ _ h c.as_slice-header.ensures is) (short _ _ c.as_slice-header.ensures c.requires.few) _ _ _ _ _ (c.requires.blank told) (c.clear.ensures.any_moment told kept) (c.in_ok-clear.ensures.clears told) (c.put_gate.ensures.any_moment told kept1) (c.in_ok-put_gate.ensures.puts told) (c.put_header.ensures.any_moment told kept2) (c.in_ok-put_header.ensures.puts told) (c.clear_long.ensures.any_moment told kept3)

pub returns-clause-any_moment : goal.returns-clause-any_moment
returns-clause-any_moment g c told h is kept =
    let kept1 = c.in_ok-clear.ensures.kept told kept in
    let kept2 = c.in_ok-put_gate.ensures.kept told kept1 in
    let kept3 = c.in_ok-put_header.ensures.kept told kept2 in
    until_end h _ (of_text _ _ h c.as_slice-header.ensures is) (short _ _ c.as_slice-header.ensures c.requires.few) _ _ _ _ _ (c.requires.blank told) (c.clear.ensures.any_moment told kept) (c.in_ok-clear.ensures.clears told) (c.put_gate.ensures.any_moment told kept1) (c.in_ok-put_gate.ensures.puts told) (c.put_header.ensures.any_moment told kept2) (c.in_ok-put_header.ensures.puts told) (c.clear_long.ensures.any_moment told kept3)

pub returns-clause-creates : goal.returns-clause-creates
returns-clause-creates g c told h is =
    let of = of_text _ _ h c.as_slice-header.ensures is in
    let few = short _ _ c.as_slice-header.ensures c.requires.few in
    stands_created h _ of few _ _ (at_end h _ of few _ _ _ _ _ (c.requires.blank told) (c.in_ok-clear.ensures.clears told) (c.in_ok-put_gate.ensures.puts told) (c.in_ok-put_header.ensures.puts told) (c.in_ok-clear_long.ensures.clears told)) refl

pub returns-clause-kept : goal.returns-clause-kept
returns-clause-kept g c told kept =
    c.in_ok-clear_long.ensures.kept told (c.in_ok-put_header.ensures.kept told (c.in_ok-put_gate.ensures.kept told (c.in_ok-clear.ensures.kept told kept)))

pub returns-clause-bytes : goal.returns-clause-bytes
returns-clause-bytes g c told = let last = c.in_ok-clear_long.ensures.clears told in let put = c.in_ok-put_header.ensures.puts told in last.off ∙ put.on ∙ ap (λ (l : List ℕ). 1 ∷ l) c.as_slice-header.ensures

pub returns-clause-ends : goal.returns-clause-ends
returns-clause-ends g c told =
    let last = c.in_ok-clear_long.ensures.clears told in
    let put = c.in_ok-put_header.ensures.puts told in
    let h = c.requires.header.0 in
    ends_shut h _ (of_text _ _ h c.as_slice-header.ensures c.requires.header.1) (short _ _ c.as_slice-header.ensures c.requires.few) _ (g.T.Station.clock c.clear_long.new.station).seen (last.off ∙ put.on) refl

pub returns-clause-short_stays : goal.returns-clause-short_stays
returns-clause-short_stays g c told = short_stays _ _ _ _ _ _ (c.in_ok-clear.ensures.clears told) (c.in_ok-put_gate.ensures.puts told) (c.in_ok-put_header.ensures.puts told) (c.in_ok-clear_long.ensures.clears told)
