-- A row entered in its three tables, and the rows of a beat.
use Prim.Native.Nat.{ℕ, ◌*◌, ◌≤◌, min}
use native.Mathlib.Omega.{arith}
use native.Mathlib.Decide.{dec_le}
use native.Mathlib.Nat.{min-eq_left, min-eq_right}
use mathlib.Core.Path.{◌≡◌, refl, sym, ap, ◌∙◌}
use mathlib.Core.List.{List, [], ◌∷◌, ◌++◌}
use mathlib.Core.Bool.{Bool, true, false, true≢false}
use lib.ListN.{length, take}
use lib.Seq.{sets, take_all, length-take-le}
use Rattle.model.specs.declared.Member.{Member}
use Rattle.model.specs.declared.RowPlace.{RowPlace}
use Rattle.model.specs.declared.Point.{Point}
use Rattle.tables.specs.Table.{stores}
use Rattle.entries.specs.Words.{row_stride, row_words, member_stride, member_words, point_stride, point_words}
use Rattle.curve.specs.Bend.{finish}
use Rattle.note.specs.Points.{points_at, bend_in}
use Rattle.beat.specs.Beat.{BeatIs}
use Rattle.score.specs.declared.Fretboard.{Fretboard}
use Rattle.score.specs.declared.KeptCounts.{KeptCounts}
use Rattle.score.specs.declared.Voice.{Voice}
use Rattle.score.specs.Members.{Keyed, Graced, graces}
use Rattle.score.specs.Rows.{RowIs, curve_of, grace_row, grace_rows, beat_row, rows_of}
use Rattle.score.specs.Page.{Kind, Operations, Rowing, fingered, row_entry, ottava_marks, turn_hammer, turn_run, start_ties}
use Rattle.score.specs.Page.{keep_row, keep_rows}
use Rattle.format.specs.declared.Range.{Range}
use Rattle.draft.specs.declared.Draft.{Draft}
use Rattle.draft.specs.declared.graces.Graces.{Graces}
use Rattle.draft.specs.Meant.{drawn, draft_in}
use Rattle.draft.specs.Steps.{any_of, graces_of, grace_draft}
use Rattle.words.specs.Words.{Words, words}
use Rattle.words.specs.Meant.{rowing_of}
use Rattle.into_rows.specs.declared.members.Company.{Company}
use Rattle.into_rows.specs.declared.points.Bent.{Bent}
use Rattle.into_rows.specs.Entry.{Sums, Bends, bent_of, kept_after, voice_after}
use Rattle.into_rows.proofs.Entering.{members_stored, points_stored, ties_started, hammer_turned, run_turned}
use Rattle.into_rows.proofs.Gracing.{graces_as, no_ties}

pub bends_by : (ps : List Point) {bent : Bent} → bent ≡ bent_of ps → Bends ps bent
bends_by ps e = rw e (record { count = refl; height = refl })

-- ---- one row, table by table
module _ (s : List ℕ) (kept : KeptCounts) (voice : Voice) (rows members points : List ℕ) where
  abbrev before : Rowing Words
  before = rowing_of rows members points kept voice

  module _ (ms : List Member) (d : Draft) where
    abbrev its : List Point
    its = curve_of (bend_in s d.bend)

    pub row_kept : (company : Company) {bent : Bent} {r p : List ℕ} {k : KeptCounts} {v : Voice} → Sums ms company
        → bent ≡ bent_of its
        → p ≡ stores point_words point_stride points kept.points its
        → r
        ≡ sets
        (turn_run (words []) voice.run (drawn ms its d) (turn_hammer (words []) voice.hammer (drawn ms its d) rows))
        (kept.rows * row_stride)
        (row_words (row_entry (drawn ms its d) (ottava_marks (drawn ms its d) voice.run) kept))
        → k ≡ kept_after company bent kept
        → v ≡ voice_after (drawn ms its d) kept voice
        → rowing_of r (keep_row (words s) (draft_in s ms d) before).members p k v ≡ keep_row (words s) (draft_in s ms d) before
    unfolding keep_row
    row_kept company sums e ep er ek ev =
        rw (
          er,
          ep,
          ek,
          ev,
          e,
          sums.count,
          hammer_turned s voice.hammer (drawn ms its d) rows,
          run_turned s voice.run (drawn ms its d) _,
          points_stored s kept.points its points,
        )

  -- its members
  pub members_kept : (row : RowIs)
      → (keep_row (words s) row before).members
      ≡ stores member_words member_stride (start_ties (words []) voice.last row.members members) kept.members
      (fingered row.members)
  unfolding keep_row
  members_kept row =
      members_stored s kept.members (fingered row.members) (start_ties (words s) voice.last row.members members)
      ∙ rw (ties_started s voice.last row.members members)

  -- a row whose members are entered apart
  module _ (ms : List Member) (d : Draft) {r m p : List ℕ} {k : KeptCounts} {v : Voice}
      (entered : rowing_of r (keep_row (words s) (draft_in s ms d) before).members p k v ≡ keep_row (words s) (draft_in s ms d) before) where
    with_members : m ≡ (keep_row (words s) (draft_in s ms d) before).members
        → rowing_of r m p k v ≡ keep_row (words s) (draft_in s ms d) before
    with_members e = ap (λ (l : List ℕ). rowing_of r l p k v) e ∙ entered

    pub own_kept : {row : RowIs} {n : List ℕ} → n ≡ start_ties (words []) voice.last ms members
        → m ≡ stores member_words member_stride n kept.members (fingered ms)
        → draft_in s ms d ≡ row
        → rowing_of r m p k v ≡ keep_row (words s) row before
    own_kept en em ed =
        with_members (em ∙ rw en (sym (members_kept (draft_in s ms d)))) ∙ ap (λ (x : RowIs). keep_row (words s) x before) ed

-- ---- the row of graces
module _ (place : RowPlace) (board : Fretboard) (flat : Bool) (beat : Range) where
  pub no_graces : {T : Kind → Type 0} (the : Operations T) (gs : List Graced) (w : Rowing T) {x : Graces} → x ≡ graces_of gs
      → x.any ≡ false
      → w ≡ keep_rows the (grace_rows place board flat beat gs) w
  no_graces the [] w e none = refl
  no_graces the (g ∷ gs) w e none = absurd (true≢false (rw e at none))

  some_graces : {T : Kind → Type 0} (the : Operations T) (gs : List Graced) (w : Rowing T) → any_of gs ≡ true
      → keep_row the (grace_row place board flat beat gs) w ≡ keep_rows the (grace_rows place board flat beat gs) w
  some_graces the [] w any = absurd (true≢false (sym any))
  some_graces the (g ∷ gs) w any = refl

  grace_drawn : (s : List ℕ) (gs : List Graced)
      → draft_in s (graces_as board flat gs) (grace_draft place beat (graces_of gs)) ≡ grace_row place board flat beat gs
  unfolding grace_draft grace_row points_at finish
  grace_drawn s gs = refl

  pub graces_kept : (s : List ℕ) (kept : KeptCounts) (voice : Voice) (rows members points : List ℕ) (gs : List Graced) {x : Graces} {d : Draft}
      {r m p : List ℕ} {k : KeptCounts} {v : Voice} → x ≡ graces_of gs
      → x.any ≡ true
      → d ≡ grace_draft place beat x
      → m ≡ stores member_words member_stride members kept.members (fingered (graces_as board flat gs))
      → rowing_of r (keep_row (words s) (draft_in s (graces_as board flat gs) d) (rowing_of rows members points kept voice)).members p k v
      ≡ keep_row (words s) (draft_in s (graces_as board flat gs) d) (rowing_of rows members points kept voice)
      → rowing_of r m p k v
      ≡ keep_rows (words s) (grace_rows place board flat beat gs) (rowing_of rows members points kept voice)
  graces_kept s kept voice rows members points gs {d = d} ex any ed em entered =
      own_kept s kept voice rows members points (graces_as board flat gs) d entered
      (sym (no_ties board flat voice.last gs members)) em (rw (ed, ex) (grace_drawn s gs))
      ∙ some_graces (words s) gs (rowing_of rows members points kept voice) (rw ex at any)

-- ---- the rows of a beat
pub both_rows : {T : Kind → Type 0} (the : Operations T) (place : RowPlace) (board : Fretboard) (flat : Bool) (running : ℕ) (b : BeatIs)
    (xs : List Keyed) (w : Rowing T)
    → keep_rows the (rows_of place board flat running b xs) w
    ≡ keep_row the (beat_row place board flat running b xs) (keep_rows the (grace_rows place board flat b.range (graces xs)) w)
unfolding rows_of
both_rows the place board flat running b xs w = by (graces xs)
  where
    by : (gs : List Graced)
        → keep_rows the (grace_rows place board flat b.range gs ++ (beat_row place board flat running b xs ∷ [])) w
        ≡ keep_row the (beat_row place board flat running b xs) (keep_rows the (grace_rows place board flat b.range gs) w)
    by [] = refl
    by (g ∷ gs) = refl

-- ---- a chord has at most seven notes
pub so_many : (chord : List ℕ) (size : ℕ) → size ≤ 7 → size ≤ length chord → length (take size chord) ≤ 7
so_many chord size h k = rw (length-take-le size chord k) h

pub first_notes : (chord : List ℕ) (count : ℕ) {size : ℕ} → length chord ≡ 7 → size ≡ min count 7 → take size chord ≡ take count chord
first_notes chord count l e = elim (dec_le count 7) [
  | yes h ↦ rw (e, min-eq_left h)
  | no h ↦
      let seven : min count 7 ≡ 7 = min-eq_right (omega arith) in
      rw (e, seven, take_all 7 chord (omega arith), take_all count chord (omega arith))
]
