-- What a draft means in a file s: a row, with the members that belong to it.
use Rattle.std.specs.Prelude.{ℕ, List}
use Rattle.model.specs.declared.Member.{Member}
use Rattle.model.specs.declared.Point.{Point}
use Rattle.note.specs.Points.{bend_in}
use Rattle.score.specs.Rows.{RowIs, curve_of}
use Rattle.draft.specs.declared.Draft.{Draft}

-- with its members and its curve
abbrev pub drawn : List Member → List Point → Draft → RowIs
drawn members curve d =
    record {
      place = d.place;
      kind = d.kind;
      rest = d.rest;
      value = d.value;
      members = members;
      text = d.text;
      technique = d.technique;
      curve = curve;
      dynamic = d.dynamic;
      articulations = d.articulations;
      arpeggio = d.arpeggio;
      head = d.head;
      ottava = d.ottava;
      chord = d.chord;
      beat = d.beat;
    }

-- the curve is that of its bend
abbrev pub draft_in : List ℕ → List Member → Draft → RowIs
draft_in s members d = drawn members (curve_of (bend_in s d.bend)) d
