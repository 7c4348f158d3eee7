use Rattle.std.proofs.Common.{◌++◌, append_assoc, refl}
use Rattle.std.specs.Prelude.{string_bytes}
use Rattle.std.specs.List.{flat_map}
use Rattle.zt_text.proofs.printing.put_all.Goals as goal
use Rattle.zt_text.specs.Text.{sent_text}
use Rattle.zt_text.proofs.TextLemmas.{begins_same, begins_trans}
use Rattle.zt_text.specs.Sent.{SentFits}
use Rattle.zt_text.proofs.FitLemmas.{all-next}
use Rattle.zt_text.proofs.FrontLemmas.{told_on}

pub loop-sent-preserved : goal.loop-sent-preserved
loop-sent-preserved g c =
    let item = c.sent-item.result in
    let text = sent_text g.K.Key.printed in
    let all = string_bytes c.args.out.now ++ (c.args.head.now.bytes ++ flat_map text c.args.sents.now) in
    record {
      told = told_on text c.args.sents.now c.loop-sent.sent-index item (string_bytes c.loop-sent.out) c.loop-sent.head.bytes all (string_bytes c.put_sent.new.out ++ c.put_sent.new.head.bytes) c.loop-sent-test.true c.sent-item.is c.in_ok-put_sent.ensures.ok c.loop-sent.invariant.told;
      room = c.in_ok-put_sent.ensures.room;
      begun = begins_trans (string_bytes c.args.out.now) (string_bytes c.loop-sent.out) (string_bytes c.put_sent.new.out) c.loop-sent.invariant.begun c.put_sent.ensures.begun;
      fit = all-next SentFits c.args.sents.now c.loop-sent.sent-index item c.loop-sent-test.true c.sent-item.is c.loop-sent.invariant.fit c.put_sent.ensures.fit;
    }

pub loop-sent-init : goal.loop-sent-init
loop-sent-init g c =
    let out = string_bytes c.args.out.now in
    record {
      told = append_assoc out c.args.head.now.bytes (flat_map (sent_text g.K.Key.printed) c.args.sents.now);
      room = c.requires;
      begun = begins_same out out refl;
      fit = tt;
    }

pub returns-in_err-put_sent-clause-begun : goal.returns-in_err-put_sent-clause-begun
returns-in_err-put_sent-clause-begun g c =
    begins_trans (string_bytes c.args.out.now) (string_bytes c.loop-sent.out) (string_bytes c.put_sent.new.out) c.loop-sent.invariant.begun c.put_sent.ensures.begun
