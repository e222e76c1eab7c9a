use Rattle.std.proofs.Common.{◌≤◌, subst}
use Rattle.std.proofs.lemmas.Result.{on_ok_weaker}
use Rattle.read_json_lines.proofs.Representing.{end-stopped, end-stream, end-mark}
use Rattle.read_json_lines.proofs.json.JsonReader.take_end.Goals as goal

pub returns-then-marked-gt0-clause-represents : goal.returns-then-marked-gt0-clause-represents
returns-then-marked-gt0-clause-represents c =
    on_ok_weaker c.fail.result
    (λ put opts file start bytes represents.
    (end-mark opts file start c.args.self.now.stream bytes c.args.self.now.mark c.unwrap_or-marked.result c.fail.new.self c.args.out.now c.fail.new.out c.unwrap_or-marked.ensures c.if-marked-gt0.true put represents).at)
    c.fail.ensures

pub returns-then-marked-gt0-clause-adds : goal.returns-then-marked-gt0-clause-adds
returns-then-marked-gt0-clause-adds c =
    on_ok_weaker c.fail.result
    (λ put opts file start bytes represents.
    (end-mark opts file start c.args.self.now.stream bytes c.args.self.now.mark c.unwrap_or-marked.result c.fail.new.self c.args.out.now c.fail.new.out c.unwrap_or-marked.ensures c.if-marked-gt0.true put represents).adds)
    c.fail.ensures

pub returns-then-self-clause-represents : goal.returns-then-self-clause-represents
returns-then-self-clause-represents c = λ opts file start bytes represents.
    (end-stopped opts file start c.args.self.now.stream bytes c.args.self.now.mark c.args.out.now c.if-self.true represents).at

pub returns-then-self-clause-adds : goal.returns-then-self-clause-adds
returns-then-self-clause-adds c = λ opts file start bytes represents.
    (end-stopped opts file start c.args.self.now.stream bytes c.args.self.now.mark c.args.out.now c.if-self.true represents).adds

pub returns-clause-represents : goal.returns-clause-represents
returns-clause-represents c =
    on_ok_weaker c.end.result
    (λ appends opts file start bytes represents.
    (end-stream opts file start c.args.self.now.stream bytes c.args.self.now.mark c.end.new.self c.args.out.now c.end.new.out (subst (λ n. n ≤ 0) c.unwrap_or-marked.ensures c.if-marked-gt0.false) c.if-self.false appends represents).at)
    c.end.ensures.ended

pub returns-clause-adds : goal.returns-clause-adds
returns-clause-adds c =
    on_ok_weaker c.end.result
    (λ appends opts file start bytes represents.
    (end-stream opts file start c.args.self.now.stream bytes c.args.self.now.mark c.end.new.self c.args.out.now c.end.new.out (subst (λ n. n ≤ 0) c.unwrap_or-marked.ensures c.if-marked-gt0.false) c.if-self.false appends represents).adds)
    c.end.ensures.ended
