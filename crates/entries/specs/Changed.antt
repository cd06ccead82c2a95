-- An entry with one field changed, and the law that this changes one word of it. With `over_turn` of tables: of one
-- entry among many.
use Rattle.std.specs.Prelude.{Bool, Option, ℕ}
use Rattle.model.specs.declared.Bar.{Bar}
use Rattle.model.specs.declared.EndingPlace.{EndingPlace}
use Rattle.model.specs.declared.Member.{Member}
use Rattle.model.specs.declared.Row.{Row}
use Rattle.model.specs.declared.Technique.{Technique}

abbrev pub with_place : EndingPlace → Bar → Bar
with_place p b = record {
  time = b.time;
  key = b.key;
  changed = b.changed;
  repeats = b.repeats;
  ending = b.ending;
  passes = b.passes;
  place = p;
  marker = b.marker;
  direction = b.direction;
  tempo = b.tempo;
}

abbrev pub with_tempo : Option ℕ → Bar → Bar
with_tempo x b = record {
  time = b.time;
  key = b.key;
  changed = b.changed;
  repeats = b.repeats;
  ending = b.ending;
  passes = b.passes;
  place = b.place;
  marker = b.marker;
  direction = b.direction;
  tempo = x;
}

abbrev pub with_technique : Technique → Row → Row
with_technique q r = record {
  place = r.place;
  kind = r.kind;
  rest = r.rest;
  value = r.value;
  members = r.members;
  playing = record { text = r.playing.text; technique = q; curve = r.playing.curve; height = r.playing.height };
  expression = r.expression;
  ottava = r.ottava;
  chord = r.chord;
  finger = r.finger;
  beat = r.beat;
}

abbrev pub with_ottava_end : Bool → Row → Row
with_ottava_end e r = record {
  place = r.place;
  kind = r.kind;
  rest = r.rest;
  value = r.value;
  members = r.members;
  playing = r.playing;
  expression = r.expression;
  ottava = record { start = r.ottava.start; end = e };
  chord = r.chord;
  finger = r.finger;
  beat = r.beat;
}

abbrev pub with_tie_start : Bool → Member → Member
with_tie_start s m = record {
  key = m.key;
  flat = m.flat;
  position = m.position;
  ghosted = m.ghosted;
  ties = record { end = m.ties.end; start = s };
  finger = m.finger;
}
