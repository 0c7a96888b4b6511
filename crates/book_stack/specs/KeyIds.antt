-- The key ids that a connection sent and heard last (own).
use Rattle.std.specs.Prelude.{Bool, ◌&&◌, Option, Some, None, if◌then◌else◌}
use Rattle.book_segments.specs.Options.{AoFound, One, find_ao}
use Rattle.book_segments.specs.Segments.{Reading, Read, Bad as Unread, reading, spell}
use Rattle.book_endpoint.specs.declared.arrival.Arrival.{Arrival}
use Rattle.book_endpoint.specs.Emissions.{Emission}
use Rattle.book_stack.specs.Stacks.{handed}
use Rattle.book_stack.specs.Watches.{is_heard}
use Rattle.book_stack.specs.declared.key_ids.KeyIds.{KeyIds}
use Rattle.book_stack.specs.declared.key_ids.KeyIdsSeen.{KeyIdsSeen}

-- the ids of what was found of TCP-AO: of one option, and none else (RFC 5925, section 2.2)
abbrev pub option_key_ids : AoFound → Option KeyIds
option_key_ids (One ao) = Some (record { key_id = ao.key_id; rnext_key_id = ao.rnext_key_id })
option_key_ids _ = None

-- the ids of bytes that are read so: none where they are no segment (RFC 5925, section 2.2)
abbrev pub key_ids_read : Reading → Option KeyIds
key_ids_read (Read d) = option_key_ids (find_ao d.area)
key_ids_read (Unread fault) = None

-- the ids of a segment that an end made, as it is handed out (own)
abbrev pub key_ids_made : Emission → Option KeyIds
key_ids_made x = key_ids_read (reading (spell (handed x.segment)))

-- no ids were seen (own)
abbrev pub no_key_ids : KeyIdsSeen
no_key_ids = record { sent = None; heard = None }

-- a segment with these ids was sent: its KeyID is that of the current key, its RNextKeyID the one
-- that is asked for (RFC 5925, section 7.1)
abbrev pub key_ids_sent : Option KeyIds → KeyIdsSeen → KeyIdsSeen
key_ids_sent ids seen = record seen { sent = ids }

-- a segment with these ids came and was answered so: where it passed the check and moved its
-- connection on, its ids were heard (RFC 5925, section 7.5, and own)
abbrev pub key_ids_heard : (moved : Bool) → Arrival → Option KeyIds → KeyIdsSeen → KeyIdsSeen
key_ids_heard moved answer ids seen =
    if is_heard answer && moved then record seen { heard = ids } else seen
