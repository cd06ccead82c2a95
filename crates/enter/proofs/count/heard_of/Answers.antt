-- String by string.
use mathlib.Core.Path.{◌≡◌, sym, ◌∙◌}
use native.Mathlib.Nat.{mod-eq_of_lt}
use native.Mathlib.Omega.{arith}
use Rattle.note.proofs.Strings.{taken_less}
use Rattle.note.proofs.Over.{over_taken, over_none}
use Rattle.words.specs.Counted.{one_note, grace_of}
use Rattle.enter.proofs.Heard.{adding, over_heard}
use Rattle.enter.proofs.count.heard_of.Goals as goal

pub loop-string-init : goal.loop-string-init
loop-string-init c =
    let sound = c.that_sound-sounding in
    let all : c.into_iter-string-iterator.result.left ≡ sound.result =
    rw (c.into_iter-string-iterator.ensures.into_iter_gives, c.of-string-items.ensures) (mod-eq_of_lt sound.ensures.small) in
    (omega (arith, all, sound.ensures.small), omega arith, (λ s v. rw all), (λ s v. rw all))

pub overflow_add-count : goal.overflow_add-count
overflow_add-count c =
    omega (arith, c.loop-string.invariant.0)

pub overflow_add-graces : goal.overflow_add-graces
overflow_add-graces c =
    let l = c.loop-string in
    omega (arith, l.invariant.0, l.invariant.1, c.one_grace-graces.ensures.upper_bound)

pub loop-string-preserved : goal.loop-string-preserved
loop-string-preserved c =
    let l = c.loop-string in
    let taken = c.in-Some.ensures.steps in
    let small = l.string-iterator.small in (
      omega (arith, l.invariant.0, taken_less small taken),
      omega (arith, l.invariant.1, c.one_grace-graces.ensures.upper_bound),
      (λ s v. l.invariant.2 s v ∙ over_taken _ l.count small taken),
      (λ s v. rw (c.one_grace-graces.ensures.value, c.grace-grace.ensures v) (l.invariant.3 s v ∙ over_taken _ l.graces small taken)),
    )

pub returns : goal.returns
returns c =
    let l = c.loop-string in
    let a = c.args in
    let none = c.in-None.ensures.steps in
    let h = rw c.strings.ensures at c.that_sound-sounding.ensures.sound in
    record {
      notes = λ s v. sym (l.invariant.2 s v ∙ rw none (over_none (adding one_note s v a.notes.now) l.count)) ∙ over_heard one_note s v a.notes.now _ _ _ h;
      graces = λ s v. sym (l.invariant.3 s v ∙ rw none (over_none (adding grace_of s v a.notes.now) l.graces)) ∙ over_heard grace_of s v a.notes.now _ _ _ h;
    }
