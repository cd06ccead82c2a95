-- Where ties start, said of the finished rows and members.
use Rattle.std.specs.Prelude.{ℕ, zero, suc, Bool, true, false, not, ◌&&◌, ◌||◌, List, [], ◌∷◌, ◌++◌, eqb, take, drop}
use Rattle.format.specs.Text.{pick}
use Rattle.model.specs.declared.Member.{Member}
use Rattle.model.specs.declared.Row.{Row}
use Rattle.model.specs.declared.RowKind.{RowKind}
use Rattle.model.specs.declared.RowKind.TheVariants.{Grace, Beat}
use Rattle.score.specs.Score.{answers}

-- a kept beat's own row, and no grace row before it
abbrev pub is_beat : RowKind → Bool
is_beat Grace = false
is_beat Beat = true

-- one voice of one track
abbrev pub same_voice : (track voice of_track of_voice : ℕ) → Bool
same_voice track voice of_track of_voice = eqb track of_track && eqb voice of_voice

-- the members of a row, from the table of all
abbrev pub members_of : Row → List Member → List Member
members_of r ms = take r.members.count (drop r.members.first ms)

-- the members of all rows, row after row
abbrev pub gathered : List Row → List Member → List Member
gathered [] ms = []
gathered (r ∷ rs) ms = members_of r ms ++ gathered rs ms

-- among the rows that follow, the members of the next kept beat of a voice of a track: none where that is a rest, or
-- where there is none
abbrev pub next_members : (track voice : ℕ) → List Row → List Member → List Member
next_members track voice [] ms = []
next_members track voice (r ∷ rs) ms =
    pick (is_beat r.kind && same_voice r.place.track r.place.voice track voice) (members_of r ms)
    (next_members track voice rs ms)

-- whether member i of a chord is the first that answers a tied one: on tablature at its string, otherwise of its key
abbrev pub first_answers : Member → List Member → ℕ → Bool
first_answers tied [] i = false
first_answers tied (m ∷ chord) zero = answers tied m
first_answers tied (m ∷ chord) (suc i) = not (answers tied m) && first_answers tied chord i

-- whether it is so for one of the next members that end a tie
abbrev pub answers_one : List Member → ℕ → List Member → Bool
answers_one chord i [] = false
answers_one chord i (m ∷ next) = (m.ties.end && first_answers m chord i) || answers_one chord i next

-- whether a tie starts at member i of a row that these rows follow: on a kept beat, for the next kept beat of its voice
abbrev pub starts_at : Row → List Row → List Member → ℕ → Bool
starts_at r after ms i =
    is_beat r.kind && answers_one (members_of r ms) i (next_members r.place.track r.place.voice after ms)
