-- The rules that each hat of the code stands for: those of the definitions.
use Rattle.zt_hats.specs.declared.hat.Hat.{Hat}
use Rattle.zt_hats.specs.declared.hat.Hat.TheVariants.{Broker, Client, Peer, Router}
use Rattle.zt_model.specs.Hat.{Hat as Rules, hat}
use Rattle.zt_model.specs.Strategy.{Strategy, BrokerHat, ClientHat, PeerHat, RouterHat}

abbrev pub strategy : Hat → Strategy
strategy Broker = BrokerHat
strategy Client = ClientHat
strategy Peer = PeerHat
strategy Router = RouterHat

abbrev pub rules : Hat → Rules
rules h = hat (strategy h)
