use Rattle.std.proofs.Common.{◌<◌, ◌≤◌, length, arith, ◌∙◌}
use Rattle.text_places.specs.Views.{location_of}
use Rattle.c_tree.specs.View.{program_of}
use Rattle.site_lines.proofs.LineLemmas.{one_line, all_lines}
use Rattle.site_lines.proofs.lines.lines_of.Goals as goal

pub loop-site-preserved : goal.loop-site-preserved
loop-site-preserved c =
    let within : c.loop-site.site < length c.args.places.now = (let t = c.loop-site-test.true in let e = c.sites-site-end.ensures.count in let r = c.requires.sites in omega (arith, t, e, r)) in
    let kept = c.loop-site.invariant in (
      c.at-location.ensures.file ∙ kept.0,
      c.at-location.ensures.text ∙ kept.1,
      one_line c.args.file.now c.args.text.now c.loop-site.reader.file c.loop-site.reader.text (program_of c.args.program.now) c.args.places.now c.loop-site.site _ (location_of c.at-location.result) c.loop-site.lines.items c.push_site.new.lines.items
          within kept.0 kept.1 c.at-location.ensures.located kept.2 c.in_ok-push_site.ensures,
    )

pub returns : goal.returns
returns c =
    let over : length c.args.places.now ≤ c.loop-site.site = (let t = c.loop-site-test.false in let e = c.sites-site-end.ensures.count in let r = c.requires.sites in omega (arith, t, e, r)) in
    all_lines c.args.file.now c.args.text.now (program_of c.args.program.now) c.args.places.now c.loop-site.site c.loop-site.lines.items over c.loop-site.invariant.2
