use Rattle.std.proofs.Common.{Some, sym, ap, ◌∙◌}
use Rattle.std.specs.declared.net.ip_addr.IpAddr.TheVariants as ip
use Rattle.book_base.specs.declared.address.Address.TheVariants.{V4, V6}
use Rattle.book_scope_texts.proofs.AddressLaws.{dotted_read, groups_read, others_refused}
use Rattle.scope_texts.proofs.addresses.usual_address.Goals as goal

pub returns-in-Ok-V4 : goal.returns-in-Ok-V4
returns-in-Ok-V4 c =
    ap (λ o. Some (V4 o)) c.octets.ensures
    ∙ sym (dotted_read c.args.text.now _ (rw c.in-Ok-V4.field-0-is at c.in-Ok-V4.ensures))

pub returns-in-Ok-V6 : goal.returns-in-Ok-V6
returns-in-Ok-V6 c =
    ap (λ o. Some (V6 o)) c.octets-in-Ok-V6.ensures
    ∙ sym (groups_read c.args.text.now _ (rw c.in-Ok-V6.field-0-is at c.in-Ok-V6.ensures))

pub returns-in-Err : goal.returns-in-Err
returns-in-Err c =
    sym (others_refused c.args.text.now (λ octets h. c.in-Err.ensures (ip.V4 (record { octets = octets })) h)
    (λ segments h. c.in-Err.ensures (ip.V6 (record { segments = segments })) h))
