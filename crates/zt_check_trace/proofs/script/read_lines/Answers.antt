use Rattle.std.proofs.Common.{[], ◌∷◌, ◌+◌, map, arith}
use Rattle.std.proofs.lemmas.List.{map-append, length-map}
use Rattle.zt_protocol.specs.Plain.{plain_line}
use Rattle.zt_streams.specs.Lines.{lines_of}
use Rattle.zt_check_trace.proofs.ScriptLemmas.{stops_underway, underway_first, underway_last, underway_next}
use Rattle.zt_check_trace.proofs.script.read_lines.Goals as goal

pub loop-text-init : goal.loop-text-init
loop-text-init g c = rw c.new-lines.ensures.items (underway_first g.K.Key.reading c.args.script.now c.requires.whole)

pub loop-text-preserved : goal.loop-text-preserved
loop-text-preserved g c =
    rw (c.in_default-keep.ensures.ok, map-append plain_line c.loop-text.lines.items (c.in-Ok.line ∷ []))
    (underway_next g.K.Key.reading (lines_of c.args.script.now) (map plain_line c.loop-text.lines.items) c.loop-text.rest.now c.in-Some.text.now c.in-Some.behind.now (plain_line c.in-Ok.line)
    c.loop-text.invariant c.in-Some.ensures.0 c.in-Some.ensures.1 c.in-Ok.ensures.ok)

pub returns-in-Err : goal.returns-in-Err
returns-in-Err g c = record {
  ok = tt;
  err =
      stops_underway g.K.Key.reading (lines_of c.args.script.now) (map plain_line c.loop-text.lines.items) c.loop-text.rest.now c.in-Some.text.now c.in-Some.behind.now (c.len.result + 1) c.in-Err.error
      c.loop-text.invariant c.in-Some.ensures.0 c.in-Some.ensures.1 (omega (arith, c.len.ensures, c.loop-text.lines.ok.0, length-map c.loop-text.lines.items plain_line)) c.in-Err.ensures.err;
}

pub returns-clause-ok : goal.returns-clause-ok
returns-clause-ok g c = underway_last g.K.Key.reading (lines_of c.args.script.now) _ _ c.loop-text.invariant c.in_default.ensures
