-- The place of every bar is the one that its neighbours say.
use Rattle.std.specs.Prelude.{Option}
use Prim.Native.Nat.{ℕ, zero, suc, ◌+◌, ◌-◌, ◌<◌}
use native.Mathlib.Omega.{arith}
use mathlib.Core.Path.{◌≡◌, refl, sym, ap, ◌∙◌}
use mathlib.Core.Bool.{Bool, true, false, not, ◌&&◌}
use mathlib.Core.List.{List, [], ◌∷◌, ◌++◌}
use borrow.Author.Tests.{eqb-true, eqb-false, eq-eqb, ne_eqb}
use lib.Dec.{eqb, eqb-zero-suc, eqb-suc-zero}
use lib.ListN.{length, get_or, length-append}
use Rattle.format.specs.Text.{pick}
use Rattle.format.specs.Prog.{ok, run}
use Rattle.format.specs.Yields.{Bytes}
use Rattle.tables.specs.Table.{change}
use Rattle.tables.proofs.Laws.{length-change}
use Rattle.model.specs.declared.Bar.{Bar}
use Rattle.model.specs.declared.EndingPlace.TheVariants.{NoPlace, Begin, Mid, End, BeginEnd}
use Rattle.model.specs.declared.Time.{Time}
use Rattle.header.specs.declared.Header.{Header}
use Rattle.entries.specs.Changed.{with_place, with_tempo}
use Rattle.score.specs.Bars.{no_bar, followed, goes_on, ending_entry, bar_of}
use Rattle.score.specs.File.{Opening}
use Rattle.score.specs.Page.{Heads, Walk, add_header, enter_bar, add_beat, no_bars, no_beats, keeping}
use Rattle.score.specs.Score.{Lists, lists, none, first_tempo, scored}
use Rattle.score.specs.Reading.{Score}
use Rattle.told.specs.Told.{HeadTold, Event, enters, plays, add_heads, add_events, made, Numbered}
use Rattle.told.proofs.Made.{MadeOf, made_of_told}
use Rattle.neighbours.specs.Endings.{place_by, number_of, number_at, place_at}

-- ---- by three numbers

-- while no bar follows
last_is : (before own : ℕ) → pick (eqb own 0) NoPlace (pick (eqb before own) End BeginEnd) ≡ place_by before own 0
last_is before zero = refl
last_is before (suc n) = rw eqb-zero-suc

-- where the next has the same number
followed_is : (before own : ℕ) → followed (place_by before own 0) ≡ place_by before own own
followed_is before zero = refl
followed_is before (suc n) =
    rw (eqb-zero-suc, eq-eqb (suc n) (suc n) refl) (go (eqb (suc n) 0) (eqb before (suc n)))
  where
    go : (t u : Bool) → followed (pick t NoPlace (pick u End BeginEnd)) ≡ pick t NoPlace (pick u Mid Begin)
    go true u = refl
    go false true = refl
    go false false = refl

-- where the next has another number, or none
apart_is : (before own after : ℕ) → not (eqb after 0) && eqb own after ≡ false
    → place_by before own 0 ≡ place_by before own after
apart_is before own zero e = refl
apart_is before zero (suc n) e = refl
apart_is before (suc m) (suc n) e =
    rw (eqb-zero-suc, ne_eqb (suc n) (suc m) (λ d. eqb-false (suc m) (suc n) (rw eqb-suc-zero at e) (sym d)))

-- ---- a list of bars, each with the place that its neighbours say, where e is the number before them

-- the numbers of the first and of the last of them
abbrev first_number : List Bar → ℕ
first_number [] = 0
first_number (b ∷ bs) = number_of b.ending

abbrev last_number : ℕ → List Bar → ℕ
last_number e [] = e
last_number e (b ∷ bs) = last_number (number_of b.ending) bs

abbrev InPlace : ℕ → List Bar → Type 0
InPlace e [] = Unit {0}
InPlace e (b ∷ bs) = (b.place ≡ place_by e (number_of b.ending) (first_number bs)) × InPlace (number_of b.ending) bs

-- the number before bar i
abbrev since : ℕ → List Bar → ℕ → ℕ
since e bs zero = e
since e bs (suc i) = number_at bs i

first_is : (bs : List Bar) → first_number bs ≡ number_at bs 0
unfolding no_bar
first_is [] = refl
first_is (b ∷ bs) = refl

in_place_at : (e : ℕ) (bs : List Bar) (i : ℕ) → InPlace e bs → i < length bs
    → (get_or bs i no_bar).place ≡ place_by (since e bs i) (number_at bs i) (number_at bs (suc i))
in_place_at e [] i f h = absurd (omega arith)
in_place_at e (b ∷ bs) zero f h = rw (sym (first_is bs)) f.0
in_place_at e (b ∷ bs) (suc zero) f h = in_place_at (number_of b.ending) bs zero f.1 (omega arith)
in_place_at e (b ∷ bs) (suc (suc i)) f h = in_place_at (number_of b.ending) bs (suc i) f.1 (omega arith)

in_place : (bs : List Bar) (i : ℕ) → InPlace 0 bs → i < length bs → (get_or bs i no_bar).place ≡ place_at bs i
in_place bs zero f h = in_place_at 0 bs zero f h
in_place bs (suc i) f h = in_place_at 0 bs (suc i) f h

-- ---- one bar more

and_right : (t u : Bool) → t && u ≡ true → u ≡ true
and_right true u e = e
and_right false true e = refl
and_right false false e = e

-- what becomes of the last bar when its ending goes on
abbrev turned_on : Bar → Bar
turned_on b = with_place (followed b.place) b

-- a bar b of this number is added; `on` says whether the ending before it goes on
module _ (own : ℕ) (b : Bar) (is : number_of b.ending ≡ own) where
  abbrev on : ℕ → Bool
  on last = not (eqb own 0) && eqb last own

  equal : (last : ℕ) → on last ≡ true → last ≡ own
  equal last d = eqb-true last own (and_right (not (eqb own 0)) (eqb last own) d)

  abbrev more : Bool → ℕ → List Bar → List Bar
  more t i bs = pick t (change turned_on bs i) bs ++ (b ∷ [])

  first_more : (t : Bool) (i : ℕ) (c : Bar) (bs : List Bar) → first_number (more t i (c ∷ bs)) ≡ number_of c.ending
  first_more true zero c bs = refl
  first_more true (suc i) c bs = refl
  first_more false i c bs = refl

  in_place_more : (e : ℕ) (bs : List Bar) (i : ℕ) → length bs - 1 ≡ i → b.place ≡ place_by (last_number e bs) own 0
      → InPlace e bs → InPlace e (more (on (last_number e bs)) i bs)
  in_place_more e [] i n p f = go (on e)
    where
      go : (t : Bool) → InPlace e (more t i [])
      go true = (rw is p, tt)
      go false = (rw is p, tt)
  in_place_more e (a ∷ []) (suc i) n p f = absurd (omega arith)
  in_place_more e (a ∷ []) zero n p f = go (on (number_of a.ending)) refl
    where
      go : (t : Bool) → on (number_of a.ending) ≡ t → InPlace e (more t zero (a ∷ []))
      go true d = (
        rw (is, sym (equal (number_of a.ending) d)) (ap followed f.0 ∙ followed_is e (number_of a.ending)),
        (rw is p, tt),
      )
      go false d = (rw is (f.0 ∙ apart_is e (number_of a.ending) own d), (rw is p, tt))
  in_place_more e (a ∷ c ∷ bs) zero n p f = absurd (omega arith)
  in_place_more e (a ∷ c ∷ bs) (suc i) n p f =
      go (on (last_number e (a ∷ c ∷ bs)))
      (in_place_more (number_of a.ending) (c ∷ bs) i (omega arith) p f.1)
    where
      go : (t : Bool) → InPlace (number_of a.ending) (more t i (c ∷ bs)) → InPlace e (more t (suc i) (a ∷ c ∷ bs))
      go true g = (rw (first_more true i c bs) f.0, g)
      go false g = (f.0, g)

-- ---- a bar that is given a tempo

module _ (x : Option ℕ) where
  abbrev timed : Bar → Bar
  timed b = with_tempo (first_tempo b.tempo x) b

  first_timed : (bs : List Bar) (i : ℕ) → first_number (change timed bs i) ≡ first_number bs
  first_timed [] i = refl
  first_timed (b ∷ bs) zero = refl
  first_timed (b ∷ bs) (suc i) = refl

  in_place_timed : (e : ℕ) (bs : List Bar) (i : ℕ) → InPlace e bs → InPlace e (change timed bs i)
  in_place_timed e [] i f = tt
  in_place_timed e (b ∷ bs) zero f = f
  in_place_timed e (b ∷ bs) (suc i) f =
      (rw (first_timed bs i) f.0, in_place_timed (number_of b.ending) bs i f.1)

-- ---- the headers of a file, and its beats

last_more : (e : ℕ) (bs : List Bar) (b : Bar) → last_number e (bs ++ (b ∷ [])) ≡ number_of b.ending
last_more e [] b = refl
last_more e (c ∷ bs) b = last_more (number_of c.ending) bs b

number_of_ending : (n : ℕ) → number_of (ending_entry n) ≡ n
number_of_ending zero = refl
number_of_ending (suc n) = rw eqb-suc-zero

length-gone : (t : Bool) (bs : List Bar) (i : ℕ) → length (pick t (change turned_on bs i) bs) ≡ length bs
length-gone true bs i = length-change turned_on bs i
length-gone false bs i = refl

-- after so many headers
record HeadsPlaced (n : ℕ) (x : Heads Lists) : Type 0 where
  places : InPlace 0 x.bars
  before : x.before.ending ≡ last_number 0 x.bars
  number : length x.bars ≡ n

header_placed : (g : Opening) (n : ℕ) (time : Time) (h : Header) (x : Heads Lists) → HeadsPlaced n x
    → HeadsPlaced (n + 1) (add_header lists g n time h x)
unfolding add_header bar_of
header_placed g n time h x f =
    let b : Bar = bar_of g.directions n time h x.before in
    let is : number_of b.ending ≡ h.ending = number_of_ending h.ending in
    let gone : List Bar = pick (goes_on x.before h) (change turned_on x.bars (n - 1)) x.bars in
    let same : length gone ≡ length x.bars = length-gone (goes_on x.before h) x.bars (n - 1) in
    let last : b.place ≡ place_by (last_number 0 x.bars) h.ending 0 =
    rw (sym f.before) (last_is x.before.ending h.ending) in
    record {
      places =
          rw (sym f.before) at
          (in_place_more h.ending b is 0 x.bars (n - 1) (omega (arith, f.number)) last f.places);
      before = sym (last_more 0 gone b ∙ is);
      number = omega (arith, length-append gone (b ∷ []), same, f.number);
    }

heads_placed : (g : Opening) (hs : List HeadTold) (n : ℕ) (x : Heads Lists) → Numbered n hs → HeadsPlaced n x
    → InPlace 0 (add_heads (keeping lists none) g hs x).bars
heads_placed g [] n x o f = f.places
heads_placed g (h ∷ hs) n x o f =
    heads_placed g hs (n + 1) _ o.1 (rw o.0 (header_placed g n h.before h.header x f))

events_placed : (es : List Event) (w : Walk Lists) → InPlace 0 w.bars
    → InPlace 0 (add_events (keeping lists none) es w).bars
unfolding enter_bar add_beat
events_placed [] w f = f
events_placed (enters bar ∷ es) w f = events_placed es (enter_bar lists bar w) f
events_placed (plays b ∷ es) w f =
    events_placed es (add_beat lists b.bar b.track b.voice b.beat w)
    (in_place_timed b.beat.mix.tempo 0 w.bars b.bar f)

-- ---- of any file that is read: the place of every bar is the one that its neighbours say
pub ending_places : (s : List ℕ) → Bytes s → (x : Score) (n : ℕ) → run scored s 0 ≡ ok x n
    → (i : ℕ) → i < length x.bars.bars → (get_or x.bars.bars i no_bar).place ≡ place_at x.bars.bars i
unfolding scored made no_bars no_beats
ending_places s bytes x n e i h =
    let f : MadeOf (keeping lists none) s x n = made_of_told (keeping lists none) s bytes x n e in
    let g : Opening = f.file.song in
    let start : HeadsPlaced 0 (no_bars lists none g) = record { places = tt; before = refl; number = refl } in
    let placed : InPlace 0 (made (keeping lists none) f.file).bars.bars =
    events_placed f.file.bars.events _ (heads_placed g f.file.bars.heads 0 _ f.heads start) in
    in_place x.bars.bars i (rw f.is placed) h
