use Rattle.std.proofs.Common.{List, ℕ, ap, subst, sym, ◌∙◌}
use Rattle.book_segments.specs.Options.{AreListed, options_of}
use Rattle.book_segments.specs.Segments.{Segment}
use Rattle.tcp_segment.proofs.ReadLaws.{area_in}
use Rattle.tcp_segment.proofs.datagram.Datagram.options.Goals as goal

pub options_over-requires-clause-listed : goal.options_over-requires-clause-listed
options_over-requires-clause-listed c =
    subst (λ (l : List ℕ). AreListed (options_of l)) (sym (area_in c.self.inside.bytes.now c.self.inside.places c.self.invariant)) c.self.invariant.fits.listed

pub returns-clause-value : goal.returns-clause-value
returns-clause-value c = c.options_over.ensures ∙ (area_in c.self.inside.bytes.now c.self.inside.places c.self.invariant ∙ ap (λ (d : Segment). d.area) c.self.view_is)
