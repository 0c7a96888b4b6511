-- The ids of the option that the check found are those of the segment, wherever ids are kept.
use Rattle.std.proofs.Common.{◌≡◌, Bool, Option, Some, None, refl, ap}
use Rattle.book_segments.specs.Options.{AoFound}
use Rattle.book_segments.specs.Segments.{Segment, Read}
use Rattle.book_endpoint.specs.declared.arrival.Arrival.{Arrival}
use Rattle.book_endpoint.specs.declared.arrival.Arrival.TheVariants as arrival
use Rattle.book_stack.specs.KeyIds.{key_ids_heard, key_ids_read, option_key_ids}
use Rattle.ao_check.specs.declared.passing.Passing.{Passing}
use Rattle.tcp_endpoint.specs.Arrivals.{OptionIs}
use Rattle.ao_stack.specs.CountersPassed.{ids_passed}

pub heard_alike : (d : Segment) (m : Bool) (a : Arrival) (p : Option Passing) → OptionIs d a p → key_ids_heard m a (key_ids_read (Read d)) ≡ key_ids_heard m a (ids_passed p)
heard_alike d m a (Some p) is = ap (λ (f : AoFound). key_ids_heard m a (option_key_ids f)) is
heard_alike d m (arrival.Bad fault) None is = refl
heard_alike d m arrival.Foreign None is = refl
heard_alike d m arrival.Checksum None is = refl
heard_alike d m arrival.Closed None is = refl
heard_alike d m (arrival.Refused why) None is = refl
heard_alike d m arrival.Unexpected None is = absurd is
heard_alike d m arrival.Window None is = absurd is
heard_alike d m arrival.Challenge None is = absurd is
heard_alike d m arrival.NoAck None is = absurd is
heard_alike d m arrival.BadAck None is = absurd is
heard_alike d m arrival.TooManyRuns None is = absurd is
heard_alike d m arrival.Reset None is = absurd is
heard_alike d m arrival.Taken None is = absurd is
