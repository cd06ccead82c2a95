-- A page that is lent on.
use mathlib.Core.Path.{refl, ◌∙◌}
use Rattle.enter.specs.declared.Page.{Page}
use Rattle.enter.specs.Pages.{SamePage}

pub same_page : {p : Page} → SamePage p p
same_page = record { bars = refl; rows = refl; members = refl; points = refl; texts = refl; parts = refl; words = refl }

-- and lent on again
pub still_same : {p q r : Page} → SamePage p q → SamePage q r → SamePage p r
still_same a b =
    record {
      bars = b.bars ∙ a.bars;
      rows = b.rows ∙ a.rows;
      members = b.members ∙ a.members;
      points = b.points ∙ a.points;
      texts = b.texts ∙ a.texts;
      parts = b.parts ∙ a.parts;
      words = b.words ∙ a.words;
    }
